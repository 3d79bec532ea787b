-- Lines that are played one after the other, and what they print.
use Rattle.std.proofs.Common.{◌≡◌, ℕ, ◌+◌, ◌<◌, List, [], ◌∷◌, ◌++◌, refl, sym, ap, ◌∙◌, subst, append_assoc, append-nil, take, drop, length, get_or, suc, take-append-drop, drop-cons}
use Rattle.std.proofs.lemmas.List.{take_more}
use Rattle.am_schedule.specs.declared.step.Line.{Line}
use Rattle.am_cluster.specs.Worlds.{World}
use Rattle.am_replay.specs.Lines.{Plays}
use Rattle.am_replay.specs.Playing.{ArePlayed, PlaysAll, Reaches}

pub played_append : (a b c : World) (xs ys : List (Line × ℕ)) (t u : List ℕ) → ArePlayed a xs t b → ArePlayed b ys u c → ArePlayed a (xs ++ ys) (t ++ u) c
played_append a b c [] ys t u first next =
    let P : World → Type 0 = λ w. ArePlayed w ys (t ++ u) c in
    let Q : List ℕ → Type 0 = λ v. ArePlayed b ys (v ++ u) c in
    subst P first.1 (subst Q (sym first.0) next)
played_append a b c (x ∷ xs) ys t u first next =
    (first.0, first.1, first.2 ++ u, first.3, played_append first.0 b c xs ys first.2 u first.4 next, ap (λ v. v ++ u) first.5 ∙ append_assoc first.1 first.2 u)

-- one line more was played
pub plays_more : (a b c : World) (lines : List (Line × ℕ)) (i : ℕ) (line : Line) (number : ℕ) (start mid end : List ℕ) →
    i < length lines → (line, number) ≡ get_or lines i (line, number) →
    PlaysAll a (take i lines) b start mid → Plays b line number c mid end → PlaysAll a (take (i + 1) lines) c start end
plays_more a b c lines i line number start mid end within is all one =
    let x : Line × ℕ = (line, number) in
    let next : take (i + 1) lines ≡ take i lines ++ x ∷ [] = take_more lines i x within ∙ ap (λ (y : Line × ℕ). take i lines ++ y ∷ []) (sym is) in
    let P : List (Line × ℕ) → Type 0 = λ xs. PlaysAll a xs c start end in
    subst P (sym next) (record {
      text = all.text ++ one.text;
      played = played_append a b c (take i lines) (x ∷ []) all.text one.text all.played (c, one.text, [], one.played, (refl, refl), sym (append-nil one.text));
      printed = one.printed ∙ ap (λ v. v ++ one.text) all.printed ∙ append_assoc start all.text one.text;
    })

-- playing came to this line
pub reached : (a b : World) (lines : List (Line × ℕ)) (i : ℕ) (line : Line) (number : ℕ) (start mid : List ℕ) →
    i < length lines → (line, number) ≡ get_or lines i (line, number) → PlaysAll a (take i lines) b start mid → Reaches a lines number
reached a b lines i line number start mid within is all =
    let x : Line × ℕ = (line, number) in
    record {
      before = take i lines;
      line = line;
      behind = drop (suc i) lines;
      lines_are = sym (take-append-drop i lines) ∙ ap (λ ys. take i lines ++ ys) (drop-cons lines i x within) ∙ ap (λ (y : Line × ℕ). take i lines ++ y ∷ drop (suc i) lines) (sym is);
      text = all.text;
      stands = b;
      played = all.played;
    }
