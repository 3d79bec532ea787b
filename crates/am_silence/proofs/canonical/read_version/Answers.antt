use Rattle.std.proofs.Common.{rules, ◌≡◌, ◌-◌, ◌≤◌, ◌^◌, List, [], ℕ, ◌++◌, length, sym, subst, ◌∙◌}
use Rattle.am_wire.specs.Passing.{Passing, Passes}
use Rattle.am_wire.specs.Timestamps.{writes_moment}
use Rattle.am_wire.specs.Varint.{shortest}
use Rattle.am_wire.specs.Writing.{tag, writes_delimited}
use Rattle.am_wire.proofs.Kept.{is_none}
use Rattle.am_silence.specs.Mesh.{silence_numbers}
use Rattle.am_silence.specs.Offsets.{StandIn}
use Rattle.am_silence.proofs.Passed.{version_passed}
use Rattle.am_silence.proofs.OffsetsKept.{stand_before}
use Rattle.am_silence.proofs.canonical.read_version.Goals as goal

pub returns : goal.returns
returns c =
    let text : List ℕ = c.args.text.now in
    let start : Passing = record { text = text; passed = [] } in
    let front = subst (λ (p : Passing). Passes (tag 1 2 ++ shortest c.in_ok-size.size) p c.prefix.new.self) c.new-reader.ensures c.in_ok-size.ensures in
    let counts : length c.pass_silence.new.reader.passed - length c.prefix.new.self.passed ≡ c.in_ok-size.size = search rules in
    let over : c.moment.new.self.passed ≡ c.moment.new.self.text = search rules in
    let is = version_passed c.in_ok-fields.fields c.in_ok-expires_at.expires_at c.in_ok-size.size text _ _ _ front c.in_ok-fields.ensures.passed counts c.in_ok-expires_at.ensures.passed over in
    let whole : c.moment.new.self.passed ≡ text =
    over ∙ c.in_ok-expires_at.ensures.passed.text ∙ c.in_ok-fields.ensures.passed.text ∙ front.text in
    let small : length text ≤ 2 ^ 63 = search rules in
    record {
      is = is;
      value = record {
        silence = c.in_ok-fields.ensures.value;
        expires_at = c.in_ok-expires_at.ensures.within;
        unknown = is_none silence_numbers;
        size = subst (λ (x : List ℕ). length x ≤ 2 ^ 63) is small;
      };
      places = subst (λ (x : List ℕ). StandIn c.in_ok-fields.fields c.in_ok-fields.places x) (sym c.in_ok-expires_at.ensures.passed.passed ∙ whole)
          (stand_before c.in_ok-fields.ensures.places (writes_delimited 2 (writes_moment c.in_ok-expires_at.expires_at)));
    }
