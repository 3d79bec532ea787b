-- Frames that are sent one after the other.
use Rattle.std.proofs.Common.{◌≡◌, ℕ, ◌+◌, List, [], ◌∷◌, ◌++◌, Bool, false, ap, refl, sym, subst, ◌∙◌, arith}
use Rattle.std.specs.Prelude.{filter}
use Rattle.std.proofs.lemmas.List.{map-id, map-append}
use Rattle.std.proofs.lemmas.List.Elements.{filter-append}
use Rattle.std.proofs.lemmas.List.FromFn.{map-range_with_len_more}
use Rattle.std.proofs.lemmas.Grind.{flat_map-append}
use Rattle.std.specs.List.{flat_map, range_with_len}
use Rattle.am_gossip.specs.declared.frame.Frame.{Frame}
use Rattle.am_gossip.specs.declared.frame.Frame.TheVariants.{Push}
use Rattle.am_gossip.specs.declared.frame.Part.{Part}
use Rattle.am_gossip.specs.Frames.{fits}
use Rattle.am_instance.specs.declared.frame_sender.ExchangeRole.{ExchangeRole}
use Rattle.am_instance.specs.declared.frame_sender.ExchangeRole.TheVariants.{Ask, Answer}
use Rattle.am_instance.specs.Configs.{is_other, places_but}
use Rattle.am_instance.specs.Changes.{only_if}
use Rattle.am_instance.specs.Sendings.{Sent, Sends, addressed, states_frame}

-- both states keep the limit of one frame where they keep that of the other
pub frame_fits : (exchange : ExchangeRole) (parts : List Part) → fits (states_frame exchange parts) ≡ fits (Push parts)
frame_fits Ask parts = refl
frame_fits Answer parts = refl

pub sends_append : (one two : List (ℕ × Frame)) (a b c : Sent) → Sends one a b → Sends two b c → Sends (one ++ two) a c
sends_append [] two a b c first second = subst (λ x. Sends two x c) first second
sends_append (w ∷ one) two a b c first second = (first.0, first.1, sends_append one two first.0 b c first.2 second)

range_more : (n : ℕ) → range_with_len 0 (n + 1) ≡ range_with_len 0 n ++ n ∷ []
range_more n =
    sym (map-id (range_with_len 0 (n + 1))) ∙ map-range_with_len_more (λ x. x) 0 n n (omega arith) ∙ ap (λ xs. xs ++ n ∷ []) (map-id (range_with_len 0 n))

-- the places among one member more
pub places_more : (n one other : ℕ) → places_but (n + 1) one other ≡ places_but n one other ++ filter (is_other one other) (n ∷ [])
places_more n one other =
    ap (λ xs. filter (is_other one other) xs) (range_more n) ∙ filter-append (is_other one other) (range_with_len 0 n) (n ∷ [])

-- what went along the places so far, and along one more
pub along_more : (n one other : ℕ) (frame : Frame) (a b c : Sent) → Sends (addressed (places_but n one other) frame) a b →
    Sends (addressed (filter (is_other one other) (n ∷ [])) frame) b c → Sends (addressed (places_but (n + 1) one other) frame) a c
along_more n one other frame a b c first second =
    let whole : addressed (places_but n one other) frame ++ addressed (filter (is_other one other) (n ∷ [])) frame ≡ addressed (places_but (n + 1) one other) frame =
    sym (ap (λ places. addressed places frame) (places_more n one other) ∙ map-append (λ place. (place, frame)) (places_but n one other) (filter (is_other one other) (n ∷ []))) in
    subst (λ ws. Sends ws a c) whole (sends_append (addressed (places_but n one other) frame) (addressed (filter (is_other one other) (n ∷ [])) frame) a b c first second)

pub none_sent : {A : Type 0} (frames_of : A → List (ℕ × Frame)) (test : Bool) (v : A) (a : Sent) → test ≡ false → Sends (flat_map frames_of (only_if test v)) a a
none_sent frames_of test v a fails = subst (λ ws. Sends ws a a) (sym (ap (λ t. flat_map frames_of (only_if t v)) fails)) refl

-- what is sent of some versions, and then of others
pub sent_then : {A : Type 0} (frames_of : A → List (ℕ × Frame)) (vs ws : List A) (a b c : Sent) →
    Sends (flat_map frames_of vs) a b → Sends (flat_map frames_of ws) b c → Sends (flat_map frames_of (vs ++ ws)) a c
sent_then frames_of vs ws a b c first second =
    subst (λ fs. Sends fs a c) (sym (flat_map-append frames_of vs ws)) (sends_append (flat_map frames_of vs) (flat_map frames_of ws) a b c first second)
