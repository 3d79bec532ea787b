use Rattle.std.proofs.Common.{◌<◌, ℕ, sym}
use Rattle.std.specs.List.{AllPairs, insert}
use Rattle.std.specs.Ordering.{nat_cmp}
use Rattle.std.specs.Cmp.{ranked}
use Rattle.std.specs.declared.cmp.Ordering.TheVariants.{Less, Greater}
use Rattle.am_merge.specs.declared.blocks.cursor.Cursor.{Cursor}
use Rattle.am_merge.specs.Rows.{Rows, entries}
use Rattle.am_merge.specs.Cursors.{place}
use Rattle.am_merge.specs.Searches.{IsMissing}
use Rattle.am_merge.proofs.Places.{place_within, missing_before, missing_behind, all_pairs_insert}
use Rattle.am_surface.proofs.blocks.put.Goals as goal

put_between : (rows : Rows ℕ) (cursor : Cursor) (number : ℕ) → AllPairs (λ x y. x < y) (entries rows) → IsMissing (λ item. nat_cmp item number) rows cursor → AllPairs (λ x y. x < y) (insert (entries rows) (place rows cursor) number)
put_between rows cursor number rising missing =
    all_pairs_insert (λ x y. x < y) (entries rows) (place rows cursor) number (place_within rows cursor missing.within) rising
    (λ k d before. ranked _ number Less (sym (missing_before (λ item. nat_cmp item number) rows cursor missing k d before)))
    (λ k d from inside. ranked _ number Greater (sym (missing_behind (λ item. nat_cmp item number) rows cursor missing k d from inside)))

pub returns-in-Err : goal.returns-in-Err
returns-in-Err c =
    let kept : AllPairs (λ x y. x < y) (entries c.reserve.new.self) = rw c.in_ok-reserve.ensures.items c.requires in
    rw c.insert.ensures.items (put_between c.reserve.new.self c.in-Err.cursor c.args.number kept c.in-Err.ensures.missing)
