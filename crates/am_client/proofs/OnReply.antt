-- A statement about a reply, from one about the step that it answers.
use Rattle.std.proofs.Common.{◌≡◌, Result, Ok, Err, refl}
use Rattle.std.specs.Prelude.{IfOk}
use Rattle.am_instance.specs.declared.reply.Reply.{Reply}
use Rattle.am_cluster.specs.declared.error.ClusterError.{ClusterError}

pub on_reply : (result : Result Reply ClusterError) (P : Reply → Type 0) → ((reply : Reply) → result ≡ Ok reply → P reply) → IfOk result P
on_reply (Ok reply) P each = each reply refl
on_reply (Err error) P each = tt
