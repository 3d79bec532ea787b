use Rattle.std.proofs.Common.{◌≡◌, ◌∙◌, List, ap, sym, filter, subst}
use Rattle.am_matcher.specs.declared.labels.Label.{Label}
use Rattle.am_matcher.specs.Buckets.{buckets_for, is_in}
use Rattle.am_matcher.specs.Mutes.{AreMutedIn}
use Rattle.am_matcher.specs.Uses.{SilencesPass}
use Rattle.am_matcher.proofs.Apart.{muted_among_all}
use Rattle.am_matcher.proofs.Orders.{silences}
use Rattle.am_matcher.proofs.OtherBuckets.{other_bucket}
use Rattle.am_matcher.proofs.Uses.{silences_filtered}
use Rattle.am_matcher.proofs.muting.mutes_by.Goals as goal

pub returns-clause-muted : goal.returns-clause-muted
returns-clause-muted c =
    let ids = c.in_ok-muted.muted.ids in
    let broken = c.in_ok-muted.muted.broken in
    let labels = c.args.labels.now in
    let found : silences c.deref-2.result.now ≡ filter (is_in (buckets_for labels)) c.args.held.now =
    ap silences c.deref-2.ensures.value ∙ c.in_ok-silences.ensures ∙ ap (λ bs. filter (is_in bs) c.args.held.now) (c.deref.ensures.value ∙ c.in_ok-buckets.ensures) in
    muted_among_all c.args.judging.now.dialect labels c.args.judging.now.moment (is_in (buckets_for labels)) c.args.held.now ids broken (λ m no. other_bucket labels c.args.judging.now.dialect m no) (subst (λ ms. AreMutedIn c.args.judging.now.dialect labels c.args.judging.now.moment ms ids broken) found
    (subst (λ (ls : List Label). AreMutedIn c.args.judging.now.dialect ls c.args.judging.now.moment (silences c.deref-2.result.now) ids broken) c.in_ok-named.ensures c.in_ok-muted.ensures.muted))

pub returns-clause-kept : goal.returns-clause-kept
returns-clause-kept c = λ test pass old.
    let labels = c.args.labels.now in
    let found : silences c.deref-2.result.now ≡ filter (is_in (buckets_for labels)) c.args.held.now =
    ap silences c.deref-2.ensures.value ∙ c.in_ok-silences.ensures ∙ ap (λ bs. filter (is_in bs) c.args.held.now) (c.deref.ensures.value ∙ c.in_ok-buckets.ensures) in
    c.in_ok-muted.ensures.kept test (subst (SilencesPass test) (sym found) (silences_filtered test (is_in (buckets_for labels)) c.args.held.now pass)) old

pub returns-in_err-muted-clause-kept : goal.returns-in_err-muted-clause-kept
returns-in_err-muted-clause-kept c = λ test pass old.
    let labels = c.args.labels.now in
    let found : silences c.deref-2.result.now ≡ filter (is_in (buckets_for labels)) c.args.held.now =
    ap silences c.deref-2.ensures.value ∙ c.in_ok-silences.ensures ∙ ap (λ bs. filter (is_in bs) c.args.held.now) (c.deref.ensures.value ∙ c.in_ok-buckets.ensures) in
    c.in_err-muted.ensures.kept test (subst (SilencesPass test) (sym found) (silences_filtered test (is_in (buckets_for labels)) c.args.held.now pass)) old
