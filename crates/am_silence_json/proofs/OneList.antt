-- A body lists one list of versions.
use Rattle.std.proofs.Common.{◌≡◌, ℕ, List, [], ◌∷◌, Some, refl, sym, ap, ap₂, ◌∙◌}
use Rattle.serde_json.specs.Data.{Data, array}
use Rattle.serde_json.specs.View.{items_of}
use Rattle.am_silence.specs.Mesh.{Mesh}
use Rattle.am_silence_json.specs.Posts.{HasMoment}
use Rattle.am_silence_json.specs.Shown.{HasCut, IsShown, AreShown, cut_moment}
use Rattle.am_silence_json.specs.Lists.{Lists}
use Rattle.am_silence_json.proofs.OneMoment.{one_moment}

moments_same : (key : List ℕ) (d : Data) (m n : ℕ) → HasMoment key d m → HasMoment key d n → m ≡ n
moments_same key d m n h k =
    let text : h.text ≡ k.text = cc (h.here, k.here) in
    let spelled = rw text at h.spelled in one_moment k.text m n spelled k.spelled

cuts_same : {key : List ℕ} {d : Data} {m n : ℕ} → HasCut key d m → HasCut key d n → m ≡ n
cuts_same {key} {d} h k = h.cut ∙ ap cut_moment (moments_same key d h.whole k.whole h.here k.here) ∙ sym k.cut

pub versions_same : (d : Data) (m n : Mesh) → IsShown d m → IsShown d n → m ≡ n
versions_same d m n h k =
    let id : m.silence.id ≡ n.silence.id = cc (h.id, k.id) in
    let matchers : m.silence.matchers ≡ n.silence.matchers = cc (h.matchers, k.matchers) in
    let created_by : m.silence.created_by ≡ n.silence.created_by = cc (h.created_by, k.created_by) in
    let comment : m.silence.comment ≡ n.silence.comment = cc (h.comment, k.comment) in
    let ends : m.silence.ends_at ≡ n.silence.ends_at = cuts_same h.ends_at k.ends_at in
    let expires : m.expires_at ≡ n.expires_at = h.expires_at ∙ ends ∙ sym k.expires_at in
    let unknown : m.unknown ≡ n.unknown = h.unknown ∙ sym k.unknown in
    rw (id, matchers, created_by, comment, cuts_same h.starts_at k.starts_at, ends, cuts_same h.updated_at k.updated_at, expires, unknown) refl

lists_same : (ds : List Data) (ms ns : List Mesh) → AreShown ds ms → AreShown ds ns → ms ≡ ns
lists_same [] [] [] h k = refl
lists_same [] (m ∷ ms) ns h k = absurd h
lists_same [] [] (n ∷ ns) h k = absurd k
lists_same (d ∷ ds) [] ns h k = absurd h
lists_same (d ∷ ds) (m ∷ ms) [] h k = absurd k
lists_same (d ∷ ds) (m ∷ ms) (n ∷ ns) h k = ap₂ (λ x xs. x ∷ xs) (versions_same d m n h.0 k.0) (lists_same ds ms ns h.1 k.1)

pub items_tell : (ds es : List Data) → items_of ds ≡ items_of es → ds ≡ es
items_tell [] [] e = refl
items_tell [] (d ∷ es) e = cc
items_tell (d ∷ ds) [] e = cc
items_tell (d ∷ ds) (c ∷ es) e =
    let first : d ≡ c = cc in
    let others : items_of ds ≡ items_of es = cc in
    ap₂ (λ x xs. x ∷ xs) first (items_tell ds es others)

pub one_list : (body : List ℕ) (ms ns : List Mesh) → Lists body ms → Lists body ns → ms ≡ ns
one_list body ms ns h k =
    let both : Some (array (items_of h.objects)) ≡ Some (array (items_of k.objects)) = sym h.text.text ∙ k.text.text in
    let items : items_of h.objects ≡ items_of k.objects = cc both in
    let shown = rw (items_tell h.objects k.objects items) at h.shown in lists_same k.objects ms ns shown k.shown
