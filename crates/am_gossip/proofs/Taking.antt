-- Parts that are taken one after the other.
use Rattle.std.proofs.Common.{◌≡◌, List, [], ◌∷◌, ◌++◌, Result, Ok, Err, refl, sym, ap, append_assoc}
use Rattle.std.proofs.lemmas.List.{append-nil}
use Rattle.am_wire.specs.declared.error.WireError.{WireError}
use Rattle.am_wire.specs.Fields.{FieldAt}
use Rattle.am_gossip.specs.declared.error.FrameError.{FrameError}
use Rattle.am_gossip.specs.declared.error.FrameError.TheVariants.{Wire}
use Rattle.am_gossip.specs.declared.frame.Part.{Part}
use Rattle.am_wire.specs.declared.error.WireError.TheVariants as wire
use Rattle.am_gossip.specs.Answers.{◌>>=◌, GivesUnlessMemory, frame_fault}
use Rattle.am_gossip.specs.Parts.{parts_in, parts_of}

abbrev pub done : {A : Type 0} → A → Result A FrameError
done x = Ok x

-- a wire fault is answered as such
pub wire_gives : {A : Type 0} (e : WireError) (read : Result A FrameError) → read ≡ Err (Wire e) → GivesUnlessMemory (Err (frame_fault e)) read
wire_gives wire.Memory read is = λ other. absurd (other refl)
wire_gives e read is = λ other. is

-- these parts, and then those that are still to be read
abbrev pub behind : List Part → Result (List Part) FrameError → Result (List Part) FrameError
behind parts (Ok others) = Ok (parts ++ others)
behind parts (Err e) = Err e

pub behind-nothing : (r : Result (List Part) FrameError) → r ≡ behind [] r
behind-nothing (Ok parts) = refl
behind-nothing (Err e) = refl

behind-behind : (front parts : List Part) (r : Result (List Part) FrameError) → behind front (r >>= λ others. Ok (parts ++ others)) ≡ behind (front ++ parts) r
behind-behind front parts (Ok others) = ap (λ (x : List Part). done x) (sym (append_assoc front parts others))
behind-behind front parts (Err e) = refl

pub behind-more : (front parts : List Part) (e : FieldAt) (items : List (Result FieldAt WireError)) → parts_in e ≡ Ok parts → behind front (parts_of (Ok e ∷ items)) ≡ behind (front ++ parts) (parts_of items)
unfolding parts_of
behind-more front parts e items is = rw is (behind-behind front parts (parts_of items))

pub behind-fault : (front : List Part) (e : FieldAt) (items : List (Result FieldAt WireError)) (fault : FrameError) → parts_in e ≡ Err fault → behind front (parts_of (Ok e ∷ items)) ≡ Err fault
unfolding parts_of
behind-fault front e items fault is = rw is refl

pub behind-wire : (front : List Part) (items : List (Result FieldAt WireError)) (fault : WireError) → behind front (parts_of (Err fault ∷ items)) ≡ Err (Wire fault)
unfolding parts_of
behind-wire front items fault = refl

pub behind-end : (front : List Part) → behind front (parts_of []) ≡ Ok front
unfolding parts_of
behind-end front = ap (λ (x : List Part). done x) (append-nil front)
