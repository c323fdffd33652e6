-- Steps towards the end of a text. Assumes nothing.
use mathlib.Core.Path.{◌≡◌}
use mathlib.Core.Bool.{Bool, true, ◌&&◌}
use mathlib.Core.List.{List, [], ◌∷◌}
use Prim.Native.Nat.{ℕ, zero, suc, ◌<◌}
use native.Mathlib.Omega.{arith}
use lib.Dec.{T, ltb, ltb→lt}
use lib.ListN.{get_or}
use Rattle.monomial.proofs.Tests.{and_l, and_r}
use Rattle.reader.specs.Reader.{Reader, run, Bytes, Finishes}

pub byte_at : (word : List ℕ) (v : ℕ) → Bytes word → get_or word v 0 < 256
byte_at [] v b = omega arith
byte_at (x ∷ word) zero b = b.0
byte_at (x ∷ word) (suc v) b = byte_at word v b.1

-- a test that computes for a word that is written out
unfoldable pub all_bytes : List ℕ → Bool
all_bytes [] = true
all_bytes (x ∷ word) = ltb x 256 && all_bytes word

pub bytes_of : (word : List ℕ) → T (all_bytes word) → Bytes word
unfolding all_bytes
bytes_of [] t = tt
bytes_of (x ∷ word) t = (ltb→lt x 256 (and_l (ltb x 256) (all_bytes word) t), bytes_of word (and_r (ltb x 256) (all_bytes word) t))

module _ (m : Reader) where
  pub finished : (g : m.State) → m.ends g ≡ true → Finishes m g
  unfolding run
  finished g e = record { rest = []; bytes = tt; reads = e }

  -- one byte more
  pub more : (g : m.State) (x : ℕ) → x < 256 → Finishes m (m.eat g x) → Finishes m g
  unfolding run
  more g x b f = record { rest = x ∷ f.rest; bytes = (b, f.bytes); reads = f.reads }

  -- a byte whose step is known by an equation
  pub by : (g h : m.State) (x : ℕ) → x < 256 → m.eat g x ≡ h → Finishes m h → Finishes m g
  by g h x b e f = more g x b (rw e f)
