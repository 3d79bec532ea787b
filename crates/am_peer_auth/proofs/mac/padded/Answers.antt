use Rattle.std.proofs.Common.{ℕ, List, ◌-◌, ◌++◌, ◌∙◌, ap, length, replicate}
use Rattle.std.proofs.lemmas.List.{drop-replicate}
use Rattle.am_peer_auth.proofs.mac.padded.Goals as goal

pub returns : goal.returns
returns c =
    ap (λ (l : List ℕ). c.copy_from_slice.new.self ++ l) (drop-replicate (length c.args.bytes.now) 64 0)
    ∙ ap (λ (l : List ℕ). l ++ replicate (64 - length c.args.bytes.now) 0) c.copy_from_slice.ensures.after
