-- The listing's machine is lively; so code 10's place is the first byte where no readable listing goes on. Assumes nothing.
use mathlib.Core.Path.{◌≡◌, refl}
use mathlib.Core.Logic.{◌↔◌}
use mathlib.Core.Bool.{true, false}
use mathlib.Core.List.{List}
use Prim.Native.Nat.{ℕ}
use native.Mathlib.Omega.{arith}
use Rattle.reader.specs.Reader.{readable, run, Finishes, GoesOn, Placed, Lively}
use Rattle.reader.proofs.Places as of_readers
use Rattle.listing.specs.Machine.{eat, start}
use Rattle.listing.specs.Held.{Fair, Stands}
use Rattle.listing.specs.Readable.{ends, alive, listing}
use Rattle.listing.specs.declared.known.Known.{Known}
use Rattle.listing.specs.declared.machine.Reading.{Reading}
use Rattle.listing.specs.declared.machine.Reading.TheVariants.{Dead, Ended, At}
use Rattle.reader.specs.Said.{said}
use Rattle.reader.specs.Said as saying
use Rattle.reader.proofs.Exact.{broken_exact}
use Rattle.listing.proofs.Keeps.{keeps, starts}
use Rattle.listing.proofs.Finishes.{finishes, ended_finishes}

module _ (r : Known) where
  pub stays : (g : Reading) (x : ℕ) → alive g ≡ false → alive (eat r g x) ≡ false
  unfolding eat
  stays Dead x e = refl
  stays Ended x e = cc
  stays (At s) x e = absurd (let z : ◌≡◌ {A = ℕ} 0 1 = cc in omega arith)

  never : (g : Reading) → alive g ≡ false → ends g ≡ false
  never Dead e = refl
  never Ended e = e
  never (At s) e = refl

  on_from : Fair r → (g : Reading) → Stands r g → alive g ≡ true → Finishes (listing r) g
  on_from fair Dead h e = absurd (let z : ◌≡◌ {A = ℕ} 0 1 = cc in omega arith)
  on_from fair Ended h e = ended_finishes r fair
  on_from fair (At s) h e = finishes r fair s h

  pub lively : Fair r → Lively (listing r)
  lively fair = record {
    Held = Stands r;
    begins = starts r;
    keeps = keeps r;
    awake = refl;
    stays = stays;
    never = never;
    finishes = on_from fair;
  }

  -- the machine is alive behind these bytes exactly when some readable listing goes on behind them
  pub goes_on : Fair r → (front : List ℕ) → (alive (run (listing r) start front) ≡ true) ↔ GoesOn (listing r) front
  goes_on fair front = of_readers.goes_on (listing r) (lively fair) front

  -- code 10 and its place
  pub broken : Fair r → (text : List ℕ) (p : ℕ) → (said (listing r) text ≡ saying.broken p) ↔ ((readable (listing r) text ≡ false) × Placed (listing r) text p)
  broken fair text p = broken_exact (listing r) (lively fair) text p
