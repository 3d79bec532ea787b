-- Bytes that go out part by part.
use Rattle.std.proofs.Common.{◌≡◌, ◌<◌, ◌+◌, length-append, ℕ, List, [], ◌++◌, length, take, Result, Ok, Err, refl, ap, sym, subst, ◌∙◌, append_assoc, append-nil, arith, Option}
use Rattle.std.proofs.lemmas.List.{take-append-le}
use Rattle.std.proofs.Math.Seq.{take-append-add}
use Rattle.std.proofs.KnownBytes.{Appends-nil, Appends-trans}
use Rattle.std.specs.Io.KnownBytes.{Appends}
use Rattle.std.specs.Result.{OnOk, IfErr}
use Rattle.am_snapshot.specs.Writing.{Passes, TakesPart}

-- nothing went out yet
pub passes_none : (a : Option (List ℕ)) (waiting added : List ℕ) (before : ℕ) → Passes a a waiting added (waiting ++ added) before before
passes_none a waiting added before = record { sent = []; went_out = Appends-nil a; whole = refl; count = omega arith }

-- all went out
pub passes_all : (a b : Option (List ℕ)) (waiting added : List ℕ) (before after : ℕ) → Appends a b (waiting ++ added) → after ≡ before + length (waiting ++ added) → Passes a b waiting added [] before after
passes_all a b waiting added before after went_out count = record { sent = waiting ++ added; went_out = went_out; whole = sym (append-nil (waiting ++ added)); count = count }

-- one part after the other
pub passes_then : (a b c : Option (List ℕ)) (waiting first left second end : List ℕ) (before mid after : ℕ)
    → Passes a b waiting first left before mid → Passes b c left second end mid after → Passes a c waiting (first ++ second) end before after
passes_then a b c waiting first left second end before mid after one two =
    record {
      sent = one.sent ++ two.sent;
      went_out = Appends-trans a b c one.sent two.sent one.went_out two.went_out;
      whole =
          sym (append_assoc waiting first second)
          ∙ ap (λ (x : List ℕ). x ++ second) one.whole
          ∙ append_assoc one.sent left second
          ∙ ap (λ (x : List ℕ). one.sent ++ x) two.whole
          ∙ sym (append_assoc one.sent two.sent end);
      count = omega (arith, one.count, two.count, length-append one.sent two.sent);
    }

-- it stops in the first part
pub stops_first : (a b : Option (List ℕ)) (bytes more : List ℕ) (before k : ℕ) → TakesPart a b bytes before k → TakesPart a b (bytes ++ more) before k
stops_first a b bytes more before k (n, part, count) =
    let front = take-append-le n bytes more (omega (arith, part.0)) in
    (n, (omega (arith, part.0, length-append bytes more), subst (λ (x : List ℕ). Appends a b x) (sym front) part.1), count)

pub stops_in_first : (a b : Option (List ℕ)) (waiting first second : List ℕ) (before k : ℕ) → TakesPart a b (waiting ++ first) before k → TakesPart a b (waiting ++ (first ++ second)) before k
stops_in_first a b waiting first second before k stop = subst (λ (x : List ℕ). TakesPart a b x before k) (append_assoc waiting first second) (stops_first a b (waiting ++ first) second before k stop)

-- it stops in what waits, or in a later part
pub stops_waiting : (a b c : Option (List ℕ)) (waiting first left : List ℕ) (before mid k : ℕ)
    → Passes a b waiting first left before mid → TakesPart b c left mid k → TakesPart a c (waiting ++ first) before k
stops_waiting a b c waiting first left before mid k one (n, part, count) =
    let front : take (length one.sent + n) (waiting ++ first) ≡ one.sent ++ take n left = ap (λ (x : List ℕ). take (length one.sent + n) x) one.whole ∙ take-append-add one.sent left n in
    let size = ap (λ (x : List ℕ). length x) one.whole ∙ length-append one.sent left in
    let sent = Appends-trans a b c one.sent (take n left) one.went_out part.1 in
    (length one.sent + n, (omega (arith, part.0, size), subst (λ (x : List ℕ). Appends a c x) (sym front) sent), omega (arith, one.count, count))

-- a part that is added waits
passes_added : (a b : Option (List ℕ)) (waiting first left second : List ℕ) (before mid : ℕ) → Passes a b waiting first left before mid → Passes a b waiting (first ++ second) (left ++ second) before mid
passes_added a b waiting first left second before mid one =
    record {
      sent = one.sent;
      went_out = one.went_out;
      whole = sym (append_assoc waiting first second) ∙ ap (λ (x : List ℕ). x ++ second) one.whole ∙ append_assoc one.sent left second;
      count = one.count;
    }

pub stops_later : (a b c : Option (List ℕ)) (waiting first left second : List ℕ) (before mid k : ℕ)
    → Passes a b waiting first left before mid → TakesPart b c (left ++ second) mid k → TakesPart a c (waiting ++ (first ++ second)) before k
stops_later a b c waiting first left second before mid k one stop = stops_waiting a b c waiting (first ++ second) (left ++ second) before mid k (passes_added a b waiting first left second before mid one) stop

-- all that waited went out in the end
pub passes_whole : (a b c : Option (List ℕ)) (text left : List ℕ) (mid after : ℕ) → Passes a b [] text left 0 mid → Passes b c left [] [] mid after → Appends a c text
passes_whole a b c text left mid after one two =
    let rest = append-nil left in
    let sent = append-nil two.sent in
    let same : one.sent ++ two.sent ≡ text = ap (λ (x : List ℕ). one.sent ++ x) (sym sent ∙ sym two.whole ∙ rest) ∙ sym one.whole in
    subst (λ (x : List ℕ). Appends a c x) same (Appends-trans a b c one.sent two.sent one.went_out two.went_out)

-- exactly the first bytes went out, and not all
pub stopped_row : (a b : Option (List ℕ)) (row : List ℕ) (k : ℕ) → TakesPart a b row 0 k → (k < length row) × Appends a b (take k row)
stopped_row a b row k (n, part, count) =
    let same : n ≡ k = omega (arith, count) in
    (omega (arith, part.0, same), subst (λ (m : ℕ). Appends a b (take m row)) same part.1)

-- what waits and what went out is what came
pub passes_count : (a b : Option (List ℕ)) (waiting added left : List ℕ) (before after : ℕ) → Passes a b waiting added left before after → after + length left ≡ before + length waiting + length added
passes_count a b waiting added left before after one =
    let whole = ap (λ (x : List ℕ). length x) one.whole in
    omega (arith, whole, one.count, length-append waiting added, length-append one.sent left)

-- a fact that follows, of the value or of the error of a call
pub ok_then : {A E : Type 0} (P Q : Type 0) → (P → Q) → (r : Result A E) → OnOk r P → OnOk r Q
ok_then P Q follows (Ok x) p = follows p
ok_then P Q follows (Err e) p = tt

pub err_then : {A E : Type 0} (P Q : E → Type 0) → ((e : E) → P e → Q e) → (r : Result A E) → IfErr r P → IfErr r Q
err_then P Q follows (Ok x) p = tt
err_then P Q follows (Err e) p = follows e p
