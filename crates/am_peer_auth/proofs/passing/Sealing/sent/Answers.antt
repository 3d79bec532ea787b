use Rattle.std.proofs.Common.{◌≡◌, ◌+◌, ℕ, ap, arith, length, length-drop}
use Rattle.am_peer_auth.proofs.passing.Sealing.sent.Goals as goal

pub returns : goal.returns
returns c =
    let sealing = c.args.self.now in
    let sum : c.min-self.result ≡ sealing.out + c.args.count = omega (
      arith,
      c.min-self.ensures,
      c.saturating_add.ensures,
      c.max-end.ensures,
      c.max-end.type_inv,
      c.requires.within,
      length-drop sealing.out sealing.place.challenge,
      ap length c.as_slice-challenge.ensures,
    ) in
    ap (λ (out : ℕ). record sealing { out = out }) sum
