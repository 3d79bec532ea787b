use Rattle.std.proofs.Common.{Any, List, ◌+◌, map, take, string_bytes, sym, subst, arith}
use Rattle.am_api_silences.specs.Filters.{AreFilters, IsBadFilter}
use Rattle.am_silence.specs.declared.matcher.Matcher.{Matcher}
use Rattle.am_api_silences.proofs.FilterRows.{one_more, fault_among, any_bad, pushed}
use Rattle.am_api_silences.proofs.filters.filters_of.Goals as goal

pub returns-in-Err-clause-refused : goal.returns-in-Err-clause-refused
returns-in-Err-clause-refused c =
    fault_among (IsBadFilter c.args.dialect (string_bytes c.text-item.result)) (Any (IsBadFilter c.args.dialect) (map string_bytes c.args.texts.now)) c.in-Err.cause
    (any_bad c.args.dialect string_bytes c.args.texts.now c.loop-text.text-index c.text-item.result (omega arith) c.text-item.is) (rw c.deref.ensures at c.in-Err.ensures.refused)

pub loop-text-preserved : goal.loop-text-preserved
loop-text-preserved c =
    let items = pushed c.push.result c.loop-text.filters.items c.push.new.self.items c.in-Ok.filter (sym c.if-is_err.ensures.value) c.push.ensures.items in
    let more = one_more c.args.dialect string_bytes c.args.texts.now c.loop-text.text-index c.loop-text.filters.items c.text-item.result c.in-Ok.filter (omega arith) c.text-item.is c.loop-text.invariant (rw c.deref.ensures at c.in-Ok.ensures.read) in
    subst (λ (fs : List Matcher). AreFilters c.args.dialect (map string_bytes (take (c.loop-text.text-index + 1) c.args.texts.now)) fs) (sym items) more
