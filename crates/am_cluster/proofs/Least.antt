-- The least of moments.
use Rattle.std.proofs.Common.{◌≡◌, ℕ, zero, suc, ◌<◌, ◌≤◌, List, [], ◌∷◌, length, map, get_or, ◌⊎◌, inl, inr, refl, ap, arith}
use Rattle.std.specs.List.{All}
use Rattle.std.proofs.lemmas.Bool.{cases_lt}
use Rattle.am_version_order.specs.Moments.{greatest}
use Rattle.am_instance.specs.Deliveries.{Delivery}
use Rattle.am_instance.specs.Deliveries.Delivery.{OfSilence, OfEntry}
use Rattle.am_schedule.specs.declared.step.SilenceLine.{SilenceLine}
use Rattle.am_schedule.specs.declared.step.LogLine.{LogLine}
use Rattle.am_cluster.specs.Versions.{silence_of, entry_of, updated, least, sent_at}
use Rattle.am_cluster.specs.LineLaws.{IsUpdatedAt}
use Rattle.std.proofs.lemmas.List.Elements.{All-tail}

-- it is no later than the last moment of all
pub least_low : (ts : List ℕ) → least ts ≤ greatest
least_low [] = omega arith
least_low (t ∷ ts) = let low = least_low ts in omega (arith, low)

-- and no later than each of them
least_at : (ds : List Delivery) (k : ℕ) (d : Delivery) → k < length ds → sent_at ds ≤ updated (get_or ds k d)
least_at [] k d within = absurd (omega (arith, within))
least_at (v ∷ ds) zero d within = omega arith
least_at (v ∷ ds) (suc k) d within = let low = least_at ds k d (omega (arith, within)) in omega (arith, low)

pub sent_before : (sent : ℕ) (ds : List Delivery) → sent ≡ sent_at ds → All (λ v. sent ≤ updated v) ds
sent_before sent ds is k d within = let low = least_at ds k d within in omega (arith, low, is)

-- the update moments of versions are those of their lines
pub silence_updates : (lines : List SilenceLine) → map updated (map OfSilence (map silence_of lines)) ≡ map (λ line. line.updated) lines
silence_updates [] = refl
silence_updates (line ∷ lines) = ap (λ (ts : List ℕ). line.updated ∷ ts) (silence_updates lines)

pub entry_updates : (lines : List LogLine) → map updated (map OfEntry (map entry_of lines)) ≡ map (λ line. line.updated) lines
entry_updates [] = refl
entry_updates (line ∷ lines) = ap (λ (ts : List ℕ). line.updated ∷ ts) (entry_updates lines)

least_of : (m n : ℕ) → (m ≤ n) ⊎ (n < m)
least_of m n = elim (cases_lt n m) [ inl less ↦ inr less | inr low ↦ inl low ]

-- one of them is the least, where there is one
first_or : (v : Delivery) (ds : List Delivery) → updated v ≤ greatest → (0 < length ds → IsUpdatedAt ds (sent_at ds)) → (updated v ≤ sent_at ds) ⊎ (sent_at ds < updated v) → IsUpdatedAt (v ∷ ds) (sent_at (v ∷ ds))
first_or v ds low later (inl least) = record { version = v; among = (0, omega arith, refl); then = omega (arith, least) }
first_or v [] low later (inr less) = absurd (omega (arith, low, less))
first_or v (w ∷ ds) low later (inr less) =
    let is = later (omega arith) in
    let (k, within, here) = is.among in
    let same = is.then in
    record { version = is.version; among = (suc k, omega (arith, within), here); then = omega (arith, same, less) }

pub one_is_least : (ds : List Delivery) → 0 < length ds → All (λ v. updated v ≤ greatest) ds → IsUpdatedAt ds (sent_at ds)
one_is_least [] some low = absurd (omega (arith, some))
one_is_least (v ∷ ds) some low =
    first_or v ds (low 0 v (omega arith)) (λ more. one_is_least ds more (All-tail (λ v. updated v ≤ greatest) v ds low)) (least_of (updated v) (sent_at ds))
