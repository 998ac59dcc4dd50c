-- Laws of text that grows word by word.
use mathlib.Core.List.{List, [], ◌∷◌, ◌++◌, append_assoc, append-nil}
use mathlib.Core.Path.{◌≡◌, refl, sym, ap, ◌∙◌}
use Prim.Native.Nat.{ℕ, zero, suc, ◌+◌, ◌≤◌, min}
use native.Mathlib.Omega.{arith}
use lib.ListN.{length, take}
use lib.Seq.{take-append-add}
use Rattle.std.proofs.lemmas.List.{length-take, take_all, take_min}
use Rattle.report.specs.inner.Writing.{pushed}

take_twice : (n : ℕ) (text more : List ℕ) → take n (take n text ++ more) ≡ take n (text ++ more)
take_twice zero text more = refl
take_twice (suc n) [] more = refl
take_twice (suc n) (x ∷ xs) more = ap (λ l. x ∷ l) (take_twice n xs more)

-- what there is room for of a word
pub fitted : (text word : List ℕ) (room n : ℕ) → length text + room ≡ 1024 → n ≡ min room (length word) → text ++ take n word ≡ pushed text word
unfolding pushed
fitted text word room n e f =
    ap (λ k. text ++ take k word) f ∙ ap (λ l. text ++ l) (take_min room word) ∙ sym (take-append-add text word room) ∙ ap (λ k. take k (text ++ word)) e

-- one word after another
pub then : (before word next : List ℕ) {mid after : List ℕ} → mid ≡ pushed before word → after ≡ pushed mid next → after ≡ pushed before (word ++ next)
unfolding pushed
then before word next x y =
    y ∙ ap (λ t. take 1024 (t ++ next)) x ∙ take_twice 1024 (before ++ word) next ∙ ap (take 1024) (append_assoc before word next)

-- the same word, told otherwise
pub said : (before : List ℕ) {after word other : List ℕ} → word ≡ other → after ≡ pushed before word → after ≡ pushed before other
said before e x = x ∙ ap (pushed before) e

-- the first word, where it is short
pub whole : {after word : List ℕ} → length word ≤ 1024 → after ≡ pushed [] word → after ≡ word
unfolding pushed
whole {word = word} h x = x ∙ take_all 1024 word h

-- ---- loops: what is left to push

pub going_start : (before word rest : List ℕ) {mid : List ℕ} → mid ≡ pushed before word → pushed mid rest ≡ pushed before (word ++ rest)
going_start before word rest x = then before word rest x refl

pub going_on : (mid word rest : List ℕ) {next left all : List ℕ} → left ≡ word ++ rest → pushed mid left ≡ all → next ≡ pushed mid word → pushed next rest ≡ all
going_on mid word rest e g x = then mid word rest x refl ∙ ap (pushed mid) (sym e) ∙ g

-- with one word more
pub going_end : (before word mid next : List ℕ) {left after : List ℕ} → left ≡ [] → pushed mid left ≡ pushed before word → after ≡ pushed mid next
    → after ≡ pushed before (word ++ next)
going_end before word mid next e g x = x ∙ sym (then mid [] next refl refl) ∙ then before word next (ap (pushed mid) (sym e) ∙ g) refl

-- what was pushed is short, and all of it where nothing is left
pub pushed_short : (before word : List ℕ) {after : List ℕ} → after ≡ pushed before word → length after ≤ 1024
unfolding pushed
pushed_short before word e = omega (arith, ap length e, length-take 1024 (before ++ word))

pub going_done : (mid : List ℕ) {left all : List ℕ} → length mid ≤ 1024 → left ≡ [] → pushed mid left ≡ all → mid ≡ all
unfolding pushed
going_done mid h e g = sym (take_all 1024 mid h) ∙ ap (take 1024) (sym (append-nil mid)) ∙ ap (λ l. take 1024 (mid ++ l)) (sym e) ∙ g
