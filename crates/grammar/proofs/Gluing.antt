-- Pieces one behind the other, and what holds of each entry of a list. Assumes nothing.
use mathlib.Core.Path.{◌≡◌, sym, ap, ◌∙◌, subst}
use mathlib.Core.List.Memᴰ
use mathlib.Core.List.{List, [], ◌∷◌, ◌++◌, append_assoc}
use Prim.Native.Nat.{ℕ}
use Rattle.monomial.specs.Claims.{◌∈◌}

-- a first piece and a rest, which is a second one and an end
pub glued : (p q end : List ℕ) {rest text : List ℕ} → text ≡ p ++ rest → rest ≡ q ++ end → text ≡ (p ++ q) ++ end
glued p q end e f = e ∙ ap (λ r. p ++ r) f ∙ sym (append_assoc p q end)

pub each : {A : Type 0} (P : A → Type 0) {x : A} {l : List A} → P x → ((y : A) → y ∈ l → P y) → (y : A) → y ∈ (x ∷ l) → P y
each P h f y (Memᴰ.head e) = subst P (sym e) h
each P h f y (Memᴰ.tail m) = f y m

pub each_none : {A : Type 0} (P : A → Type 0) (y : A) → y ∈ [] → P y
each_none P y m = absurd (Memᴰ.not-nil m)
