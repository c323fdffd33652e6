-- A machine that eats a text byte by byte: which texts it reads, and at which byte it dies. Assumes nothing.
use Rattle.std.specs.Prelude.{◌≡◌, Bool, true, false, cond, List, [], ◌∷◌, ◌++◌, ℕ, suc, ◌≤◌, ◌<◌, length, take}

pub record Reader : Type 1 where
  pub State : Type 0
  pub start : State
  pub eat : State → ℕ → State
  pub ends : State → Bool
  pub alive : State → Bool

unfoldable pub run : (m : Reader) → m.State → List ℕ → m.State
run m g [] = g
run m g (x ∷ text) = run m (m.eat g x) text

-- the machine, fed with the text, ends
abbrev pub readable : Reader → List ℕ → Bool
readable m text = m.ends (run m m.start text)

-- how many bytes are eaten before the machine dies
unfoldable pub lasts : (m : Reader) → m.State → List ℕ → ℕ
lasts m g [] = 0
lasts m g (x ∷ text) = let more = suc (lasts m (m.eat g x) text) in cond (m.alive (m.eat g x)) more 0

-- the byte, from 1, behind those
abbrev pub place : Reader → List ℕ → ℕ
place m text = suc (lasts m m.start text)

-- ---- in words
abbrev pub Readable : Reader → List ℕ → Type 0
Readable m text = readable m text ≡ true

abbrev pub Bytes : List ℕ → Type 0
Bytes [] = Unit {0}
Bytes (x ∷ l) = (x < 256) × Bytes l

-- from this state some bytes lead to an end
pub record Finishes (m : Reader) (g : m.State) : Type 0 where
  pub rest : List ℕ
  pub bytes : Bytes rest
  pub reads : m.ends (run m g rest) ≡ true

-- some readable text goes on behind these bytes
pub record GoesOn (m : Reader) (front : List ℕ) : Type 0 where
  pub rest : List ℕ
  pub bytes : Bytes rest
  pub reads : Readable m (front ++ rest)

-- p is the first byte, from 1, where no readable text goes on, or one past the end
pub record Placed (m : Reader) (text : List ℕ) (p : ℕ) : Type 0 where
  pub within : p ≤ suc (length text)
  pub before : (k : ℕ) → k < p → GoesOn m (take k text)
  pub here : p ≤ length text → GoesOn m (take p text) → ⊥

-- what is shown of a machine: the dead stay dead, and every state that it comes to is dead or can finish
pub record Lively (m : Reader) : Type 1 where
  pub Held : m.State → Type 0
  pub begins : Held m.start
  pub keeps : (g : m.State) (x : ℕ) → Held g → Held (m.eat g x)
  pub awake : m.alive m.start ≡ true
  pub stays : (g : m.State) (x : ℕ) → m.alive g ≡ false → m.alive (m.eat g x) ≡ false
  pub never : (g : m.State) → m.alive g ≡ false → m.ends g ≡ false
  pub finishes : (g : m.State) → Held g → m.alive g ≡ true → Finishes m g

-- ---- what a text says: at each byte the machine says something, of what it has come to and of the byte
module _ (m : Reader) {S : Type 0} (say : m.State → ℕ → S) where
  unfoldable pub heard : m.State → List ℕ → List S
  heard g [] = []
  heard g (x ∷ text) = say g x ∷ heard (m.eat g x) text

-- what is made of it, one after the other
unfoldable pub noted : {S N : Type 0} → (S → N → N) → N → List S → N
noted note k [] = k
noted note k (s ∷ l) = noted note (note s k) l
