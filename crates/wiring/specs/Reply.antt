-- What the box says: the five numbers of each kind of reply, and a reply with the bytes of the buffer that was lent.
-- Assumes nothing.
use Rattle.std.specs.Prelude.{List, [], ◌∷◌, ℕ, replicate}
use Rattle.wiring.specs.declared.reply.Reply.{Reply}
use Rattle.wiring.specs.declared.reply.Reply.TheVariants.{Done, Setting, Length, Term, Twice, Nothing, Full, Spent, BadSet, NotQuadratic, Unreadable, FalseLine}

pub record Numbers : Type 0 where
  pub code : ℕ
  pub order : ℕ
  pub count : ℕ
  pub steps : ℕ
  pub place : ℕ

abbrev pub five : ℕ → ℕ → ℕ → ℕ → ℕ → Numbers
five code order count steps place = record { code = code; order = order; count = count; steps = steps; place = place }

-- the number and values of documents 01 and 02 for every case
abbrev pub numbers : Reply → Numbers
numbers (Done order count steps) = five 0 order count steps 0
numbers Setting = five 1 0 0 0 0
numbers Length = five 2 0 0 0 0
numbers (Term place) = five 3 0 0 0 place
numbers (Twice place) = five 4 0 0 0 place
numbers (Nothing order steps) = five 5 order 0 steps 0
numbers (Full order steps) = five 6 order 0 steps 0
numbers (Spent order steps) = five 7 order 0 steps 0
numbers BadSet = five 8 0 0 0 0
numbers (NotQuadratic order place) = five 9 order 0 0 place
numbers (Unreadable place) = five 10 0 0 0 place
numbers (FalseLine place) = five 11 0 0 0 place

abbrev pub in_order : Numbers → List ℕ
in_order x = x.code ∷ x.order ∷ x.count ∷ x.steps ∷ x.place ∷ []

-- what an operation leaves: the five numbers, and every byte of the buffer
pub record Outcome : Type 0 where
  pub said : Numbers
  pub bytes : List ℕ

abbrev pub outcome : Reply → List ℕ → Outcome
outcome r bytes = record { said = numbers r; bytes = bytes }

-- every code but 0 leaves a buffer of this size all zeros
abbrev pub refused : Reply → ℕ → Outcome
refused r size = outcome r (replicate size 0)
