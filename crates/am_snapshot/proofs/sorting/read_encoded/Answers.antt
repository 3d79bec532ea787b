use Rattle.std.proofs.Common.{◌∷◌, [], List, map, ap, subst, sym, ◌∙◌, arith}
use Rattle.std.proofs.lemmas.List.{map-append}
use Rattle.std.proofs.lemmas.List.{length-drop}
use Rattle.am_wire.proofs.Items.{rest_is}
use Rattle.am_wire.specs.Inputs.{AreMessages}
use Rattle.am_snapshot.proofs.InOrder.{next_message, none_behind}
use Rattle.am_snapshot.proofs.Rows.{reads_more, reads_all}
use Rattle.am_snapshot.proofs.sorting.read_encoded.Goals as goal

pub loop-at-preserved : goal.loop-at-preserved
loop-at-preserved g c =
    let rest = rest_is c.loop-at.at c.args.row.now in
    let value = rw rest at c.in-Some.ensures.value in
    let within = rw rest at c.in-Some.ensures.within in
    let pushed = ap (λ (encodings : List g.row.T.Denot). map g.T.EncodedVersion.version encodings) c.in_ok-push.ensures.items ∙ map-append g.T.EncodedVersion.version c.loop-at.encodings.items (c.in-Some.encoding ∷ []) in
    record {
      within = omega (arith, within.1, length-drop c.loop-at.at c.args.row.now, c.loop-at.invariant.within);
      read = λ unknown.
          let reads = g.T.Owned.Message.reads unknown in
          let first = next_message reads c.args.row.now c.loop-at.at (g.T.EncodedVersion.version c.in-Some.encoding) c.in-Some.len (value unknown) within in
          reads_more reads c.args.row.now [] _ _ _ _ (g.T.EncodedVersion.version c.in-Some.encoding) (c.loop-at.invariant.read unknown) first pushed;
    }

pub returns : goal.returns
returns g c unknown =
    let reads = g.T.Owned.Message.reads unknown in
    let none = none_behind reads c.args.row.now c.loop-at.at c.loop-at-test.false in
    let all = reads_all reads c.args.row.now [] _ _ (c.loop-at.invariant.read unknown) none in
    subst (λ (versions : List g.row.T-Owned.Denot). AreMessages reads c.args.row.now versions) (sym all.2) all.1
