use Rattle.std.proofs.Common.{rules, ◌≤◌}
use Rattle.am_silence.proofs.Passed.{matcher_passed}
use Rattle.am_silence.proofs.canonical.pass_matcher_text.Goals as goal

pub returns-clause-passed : goal.returns-clause-passed
returns-clause-passed c =
    let low : c.in_ok-kind.kind ≤ 3 = search rules in
    rw (c.new.ensures, c.of_number.ensures) (matcher_passed c.in_ok-kind.kind c.in_ok-name.name.now c.in_ok-pattern.pattern.now c.args.reader.now
    c.number.new.self c.text.new.self c.text-2.new.self low c.in_ok-kind.ensures c.in_ok-name.ensures.passed c.in_ok-pattern.ensures.passed)
