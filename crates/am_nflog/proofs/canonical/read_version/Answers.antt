use Rattle.std.proofs.Common.{rules, ◌≡◌, ◌-◌, ◌≤◌, ◌^◌, length, arith}
use Rattle.am_nflog.proofs.ReadWhole.{is_canonical}
use Rattle.am_nflog.proofs.canonical.read_version.Goals as goal

pub returns : goal.returns
returns c =
    let counts : length c.pass_entry.new.reader.passed - length c.prefix.new.self.passed ≡ c.in_ok-size.size =
    omega (arith, c.has_passed.ensures c.if-not-has_passed.false, c.at-begun.ensures.at) in
    let small : length c.args.text.now ≤ 2 ^ 63 = search rules in
    is_canonical c.args.text.now c.in_ok-entry.entry c.in_ok-expires_at.expires_at c.in_ok-size.size
    c.new-reader.result c.prefix.new.self c.pass_entry.new.reader c.moment.new.self
    c.new-reader.ensures c.in_ok-size.ensures c.in_ok-entry.ensures counts c.in_ok-expires_at.ensures.passed
    c.in_ok-expires_at.ensures.within (c.is_over.ensures c.if-not-is_over.false) small
