use Rattle.std.proofs.Common.{List, ℕ, refl, subst, sym}
use Rattle.am_api_silences.specs.Replies.{HasStatus}
use Rattle.am_api_silences.specs.Serving.{GoesOut}
use Rattle.am_api_silences.proofs.serving.hand_on.Goals as goal

pub returns : goal.returns
returns g c = record {
  written = subst (λ (bytes : List ℕ). GoesOut (g.W.Write.contents c.args.writer.now) (g.W.Write.contents c.write-fault.new.writer) bytes c.write-fault.result) c.as_slice.ensures c.write-fault.ensures;
  status = c.requires.0;
  has_status = c.requires.1;
  told = c.status_of.ensures c.requires.0 (subst (λ (bytes : List ℕ). HasStatus c.requires.0 bytes) (sym c.as_slice-2.ensures) c.requires.1);
  sent = refl;
}
