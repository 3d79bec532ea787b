use Rattle.std.proofs.Common.{rules, ◌≡◌, ◌+◌, ◌<◌, ◌^◌, ℕ, Bool, cond, eqb, length, ap, ◌∙◌}
use Rattle.am_wire.proofs.Passings.{stands}
use Rattle.am_wire.proofs.canonical.CanonicalReader.placed_part.Goals as goal

pub returns-clause-place : goal.returns-clause-place
returns-clause-place c =
    let small : length c.in_ok-part.part.now < 2 ^ 64 = search rules in
    let start : c.behind_tag-place.result.start ≡ cond (eqb (length c.in_ok-part.part.now) 0) 0 (length c.args.self.now.passed + 1) = c.behind_tag-place.ensures ∙ ap (λ (b : Bool). cond b 0 (c.at-begun.result + 1)) c.is_empty.ensures ∙ ap (λ (n : ℕ). cond (eqb (length c.in_ok-part.part.now) 0) 0 (n + 1)) c.at-begun.ensures.at in
    stands c.args.number c.in_ok-part.part.now c.behind_tag-place.result c.args.self.now c.part.new.self c.requires small c.in_ok-part.ensures start
