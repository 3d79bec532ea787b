-- Parts that are passed one after the other.
use Rattle.std.proofs.Common.{◌≡◌, ℕ, ◌+◌, ◌-◌, ◌*◌, ◌<◌, ◌^◌, cond, eqb, List, [], ◌∷◌, ◌++◌, length, take, drop, append-nil, length-append, refl, sym, ap, ◌∙◌, arith}
use Rattle.std.proofs.Math.Seq.{take-add}
use Rattle.std.proofs.lemmas.List.{append_assoc, flat_map_more, take_rest}
use Rattle.std.proofs.lemmas.List.Elements.{All-nil, All-push}
use Rattle.am_wire.specs.Passing.{Passing, Passes, ArePacked}
use Rattle.am_wire.specs.Varint.{groups, shortest}
use Rattle.am_wire.specs.Offsets.{StandsAt}
use Rattle.am_wire.specs.declared.offset.Offset.{Offset}
use Rattle.am_wire.proofs.Offsets.{stands_written}
use Rattle.am_wire.proofs.Groups.{one_group}
use Rattle.am_wire.specs.Writing.{tag, writes_delimited, writes_text}

-- a tag of one byte
pub one_tag : (n kind : ℕ) → n < 16 → kind < 8 → tag n kind ≡ (n * 8 + kind) ∷ []
one_tag n kind low few = one_group (n * 8 + kind) (omega (arith, low, few))

pub nothing : (old : Passing) → Passes [] old old
nothing old = record { text = refl; passed = sym (append-nil old.passed) }

pub both : (a b : List ℕ) (old mid new : Passing) → Passes a old mid → Passes b mid new → Passes (a ++ b) old new
both a b old mid new one two = record {
  text = two.text ∙ one.text;
  passed = two.passed ∙ ap (λ (x : List ℕ). x ++ b) one.passed ∙ append_assoc old.passed a b;
}

-- some bytes more of the text
pub further : (text part : List ℕ) (at len : ℕ) (old : Passing) → record { text = text; passed = take at text } ≡ old
    → part ≡ take len (take (length text - at) (drop at text)) → Passes part old (record { text = text; passed = take (at + len) text })
further text part at len old is front = record {
  text = ap (λ (p : Passing). p.text) is;
  passed = let own : part ≡ take len (drop at text) = front ∙ ap (take len) (take_rest text at) in rw (← is, own) (take-add at len text);
}

-- a part behind its tag and as many bytes as it has
pub whole : (n size : ℕ) (part : List ℕ) (old mid new : Passing) → Passes (tag n 2 ++ groups 9 size) old mid → Passes part mid new
    → length new.passed - length mid.passed ≡ size → Passes (writes_delimited n part) old new
whole n size part old mid new front inner counts =
    let long : size ≡ length part = omega (arith, counts, ap length inner.passed, length-append mid.passed part) in
    let all = both (tag n 2 ++ groups 9 size) part old mid new front inner in
    record {
      text = all.text;
      passed = all.passed ∙ ap (λ (x : List ℕ). old.passed ++ x)
          (append_assoc (tag n 2) (groups 9 size) part ∙ ap (λ (k : ℕ). tag n 2 ++ (groups 9 k ++ part)) long);
    }

-- where a part that was passed stands
pub stands : (n : ℕ) (part : List ℕ) (offset : Offset) (old new : Passing) → n < 16 → length part < 2 ^ 64
    → Passes (writes_text n part) old new → offset.start ≡ cond (eqb (length part) 0) 0 (length old.passed + 1) → StandsAt part offset new.passed
stands n part offset old new low small h at = stands_written old.passed part new.passed n offset low small h.passed at

-- ---- packed numbers
-- what is passed of the part is numbers
pub record HasPassed (part : List ℕ) (reader : Passing) : Type 0 where
  pub text : reader.text ≡ part
  pub packed : ArePacked reader.passed

pub none_passed : (part : List ℕ) → HasPassed part (record { text = part; passed = [] })
none_passed part = record { text = refl; packed = record { numbers = []; short = All-nil (λ n. n < 2 ^ 64); is = refl } }

-- and one more
pub one_more : (part : List ℕ) (value : ℕ) (old new : Passing) → HasPassed part old → value < 2 ^ 64 → Passes (shortest value) old new → HasPassed part new
one_more part value old new h low is = record {
  text = is.text ∙ h.text;
  packed = record {
    numbers = h.packed.numbers ++ value ∷ [];
    short = All-push (λ n. n < 2 ^ 64) h.packed.numbers value h.packed.short low;
    is = is.passed ∙ ap (λ (x : List ℕ). x ++ shortest value) h.packed.is ∙ flat_map_more shortest [] h.packed.numbers value;
  };
}
