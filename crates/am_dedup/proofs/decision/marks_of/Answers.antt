use Rattle.std.proofs.Common.{rules, arith, ◌<◌, ◌++◌, [], ◌∷◌, List, ℕ, append_assoc, sym, ◌∙◌, ap, refl, true, false, length}
use Rattle.std.proofs.lemmas.List.{get_or-replicate}
use Rattle.std.proofs.Math.ListN.{length-set}
use Rattle.am_dedup.proofs.Marks.{is_within, marks_more}
use Rattle.am_dedup.proofs.decision.marks_of.Goals as goal

pub loop-hash-init : goal.loop-hash-init
loop-hash-init c = record {
  size = refl;
  marked = λ hash place first.
      let within = is_within c.args.sorted.now hash place first in
      get_or-replicate 2048 place false false (omega (arith, within, c.requires.fits));
  walk = search rules;
}

pub loop-hash-preserved-in-Some-met_place_of : goal.loop-hash-preserved-in-Some-met_place_of
loop-hash-preserved-in-Some-met_place_of c =
    let old = c.loop-hash.invariant in
    let at = c.in-Some-met_place_of.place in
    let first = sym c.in-Some-met_place_of.ensures in
    let within = is_within c.args.sorted.now c.in-Some.hash at first in
    let fits : at < length c.loop-hash.marks = omega (arith, within, c.requires.fits, old.size) in
    record {
      size = length-set c.loop-hash.marks at true ∙ old.size;
      marked = marks_more c.args.sorted.now c.loop-hash.yielded c.loop-hash.marks c.in-Some.hash at fits first old.marked;
      walk = old.walk ∙ ap (λ (l : List ℕ). c.loop-hash.yielded ++ l) c.in-Some.ensures.steps ∙ sym (append_assoc c.loop-hash.yielded (c.in-Some.hash ∷ []) c.next.new.self);
    }
