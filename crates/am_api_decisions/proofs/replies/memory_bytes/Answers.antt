use Rattle.std.proofs.Common.{List, ℕ, None, ap, sym, ◌∙◌}
use Rattle.am_http.specs.Replies.{reply_bytes}
use Rattle.am_api_silences.proofs.Bodies.{memory_text}
use Rattle.am_api_decisions.proofs.replies.memory_bytes.Goals as goal

pub returns : goal.returns
returns c = c.out_of_memory.ensures ∙ sym (ap (λ (body : List ℕ). reply_bytes 500 None body) memory_text)
