use Rattle.std.proofs.Common.{◌≤◌, ◌%◌, [], ◌∷◌, length-append, arith}
use Rattle.std.proofs.lemmas.List.Elements.{All-append, All-cons}
use Rattle.am_gossip.proofs.Counted.{group_fits, scale_small, last_ends, last_fails, ends, one_group_more}
use Rattle.am_gossip.proofs.length.next_group.Goals as goal

pub returns-then-group-lt2 : goal.returns-then-group-lt2
returns-then-group-lt2 c = λ bytes is.
    last_ends bytes _ _ _ _ _ is.places is.value c.args.groups.scale_is is.go_on c.from-group.ensures c.if-groups-eq-LAST_PLACE.true c.if-group-lt2.true

pub returns-else-group-lt2 : goal.returns-else-group-lt2
returns-else-group-lt2 c = λ bytes is.
    last_fails bytes _ _ _ _ _ is.places is.value c.args.groups.scale_is is.go_on c.from-group.ensures c.if-groups-eq-LAST_PLACE.true c.if-group-lt2.false

pub overflow_mul-result-then-group-lt128 : goal.overflow_mul-result-then-group-lt128
overflow_mul-result-then-group-lt128 c =
    let few = c.args.groups.few in
    let other = c.if-groups-eq-LAST_PLACE.false in
    let fits = group_fits c.args.groups.scale c.args.groups.places c.from-group.result c.args.groups.scale_is (omega arith) (omega arith) in
    omega (arith, fits)

pub overflow_add-result-then-group-lt128 : goal.overflow_add-result-then-group-lt128
overflow_add-result-then-group-lt128 c =
    let few = c.args.groups.few in
    let other = c.if-groups-eq-LAST_PLACE.false in
    let low = scale_small c.args.groups.scale c.args.groups.places c.args.groups.scale_is (omega arith) in
    let fits = group_fits c.args.groups.scale c.args.groups.places c.from-group.result c.args.groups.scale_is (omega arith) (omega arith) in
    let below = c.args.groups.below in
    omega (arith, fits, low, below)

pub returns-then-group-lt128 : goal.returns-then-group-lt128
returns-then-group-lt128 c = λ bytes is.
    let few = c.args.groups.few in
    let other = c.if-groups-eq-LAST_PLACE.false in
    ends bytes _ _ _ _ _ is.places is.value c.args.groups.scale_is is.go_on c.from-group.ensures (omega arith) c.if-group-lt128.true

pub overflow_mul-result-2 : goal.overflow_mul-result-2
overflow_mul-result-2 c =
    let few = c.args.groups.few in
    let other = c.if-groups-eq-LAST_PLACE.false in
    let fits = group_fits c.args.groups.scale c.args.groups.places (c.from-group.result % 128) c.args.groups.scale_is (omega arith) (omega arith) in
    omega (arith, fits)

pub overflow_add-result-2 : goal.overflow_add-result-2
overflow_add-result-2 c =
    let few = c.args.groups.few in
    let other = c.if-groups-eq-LAST_PLACE.false in
    let low = scale_small c.args.groups.scale c.args.groups.places c.args.groups.scale_is (omega arith) in
    let fits = group_fits c.args.groups.scale c.args.groups.places (c.from-group.result % 128) c.args.groups.scale_is (omega arith) (omega arith) in
    let below = c.args.groups.below in
    omega (arith, fits, low, below)

pub overflow_mul-result-3 : goal.overflow_mul-result-3
overflow_mul-result-3 c =
    let few = c.args.groups.few in
    let other = c.if-groups-eq-LAST_PLACE.false in
    let low = scale_small c.args.groups.scale c.args.groups.places c.args.groups.scale_is (omega arith) in
    omega (arith, low)

pub returns : goal.returns
returns c = λ bytes is.
    let goes : 128 ≤ c.args.byte = omega (arith, c.from-group.ensures, c.if-group-lt128.false) in
    record {
      places = omega (arith, is.places, length-append bytes (c.args.byte ∷ []));
      value = one_group_more bytes _ _ _ _ _ is.places is.value c.args.groups.scale_is is.go_on c.from-group.ensures;
      go_on = All-append (λ b. 128 ≤ b) bytes (c.args.byte ∷ []) is.go_on (All-cons (λ b. 128 ≤ b) c.args.byte [] goes (λ k d lt. absurd (omega arith)));
    }
