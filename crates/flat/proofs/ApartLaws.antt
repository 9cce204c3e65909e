-- What a contract says of an answer it says of the struct: flattening loses nothing (`answered_once` in AnswerLaws of `replies`).
use mathlib.Core.Path.{◌≡◌, sym, ap, subst, ◌∙◌}
use Rattle.replies.specs.Answers.{Answer}
use Rattle.flat.specs.declared.Flat.{Flat}
use Rattle.flat.specs.Flat.{held, Says}

-- Whoever reads a struct as an answer has one that meets the call's contract.
pub Says-read : {A : Type 0} (flatten : A → Answer) (meets : A → Type 0) → ((x y : A) → flatten x ≡ flatten y → x ≡ y)
    → (r : Flat) → Says flatten meets r → (x : A) → held r ≡ flatten x → meets x
Says-read flatten meets told r s x e = subst meets (told s.0 x (sym s.2 ∙ e)) s.1

-- Where the contract leaves one answer, it leaves one struct.
pub Says-once : {A : Type 0} (flatten : A → Answer) (meets : A → Type 0) → ((x y : A) → meets x → meets y → x ≡ y)
    → (r q : Flat) → Says flatten meets r → Says flatten meets q → held r ≡ held q
Says-once flatten meets one r q s t = s.2 ∙ ap flatten (one s.0 t.0 s.1 t.1) ∙ sym t.2
