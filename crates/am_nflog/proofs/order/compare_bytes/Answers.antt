use Rattle.std.proofs.Common.{◌∙◌, sym, ap, arith, length, subst}
use Rattle.std.specs.Ordering.{nat_cmp}
use Rattle.std.specs.Cmp.Lexicographic.{slice_cmp}
use Rattle.std.proofs.lemmas.List.{length-drop}
use Rattle.am_nflog.proofs.Orders.{Bytes, dropped, words_decide, words_pass}
use Rattle.am_nflog.proofs.order.compare_bytes.Goals as goal

pub returns-then-word-other : goal.returns-then-word-other
returns-then-word-other c =
    let own = c.in-Some-Some.ensures in
    let other = c.in-Some-Some.ensures' in
    let so_far = c.loop-word.invariant in
    c.cmp.ensures
    ∙ (λ i. nat_cmp (own.word i) (other.word i))
    ∙ words_decide c.loop-word.left.now c.loop-word.right.now so_far.left so_far.right own.within other.within (λ same. c.if-word-other.true (own.word ∙ same ∙ sym other.word))
    ∙ so_far.same

pub loop-word-smaller : goal.loop-word-smaller
loop-word-smaller c =
    let rest = ap length c.in-Some-Some.ensures.rest in
    let size = length-drop 8 c.loop-word.left.now in
    let within = c.in-Some-Some.ensures.within in
    omega arith

pub loop-word-preserved : goal.loop-word-preserved
loop-word-preserved c =
    let own = c.in-Some-Some.ensures in
    let other = c.in-Some-Some.ensures' in
    let so_far = c.loop-word.invariant in
    record {
      same =
          (λ i. slice_cmp nat_cmp (own.rest i) (other.rest i))
          ∙ words_pass c.loop-word.left.now c.loop-word.right.now so_far.left so_far.right own.within other.within (sym own.word ∙ c.if-word-other.false ∙ other.word)
          ∙ so_far.same;
      left = subst Bytes (sym own.rest) (dropped 8 c.loop-word.left.now so_far.left);
      right = subst Bytes (sym other.rest) (dropped 8 c.loop-word.right.now so_far.right);
    }
