-- Planning, for all inputs: the reply and every byte of the buffer. Assumes nothing.
use Rattle.std.specs.Prelude.{Bool, cond, ◌&&◌, List, [], ◌∷◌, ◌++◌, ℕ, zero, suc, ◌*◌, ◌-◌, ◌/◌, leb, length, replicate}
use Rattle.monomial.specs.Lists.{gather}
use Rattle.monomial.specs.Monomial.{Mono}
use Rattle.wiring.specs.Panel.{cards, set_bytes, most_steps}
use Rattle.wiring.specs.Sockets.{panel_right}
use Rattle.wiring.specs.declared.panel.Panel.{Panel}
use Rattle.wiring.specs.Reply.{Outcome, outcome, refused}
use Rattle.wiring.specs.Poly.{Poly}
use Rattle.wiring.specs.Terms.{records, length_right, fault, system}
use Rattle.wiring.specs.Sets.{set_record}
use Rattle.wiring.specs.Answers.{unless_fault}
use Rattle.wiring.specs.declared.reply.Reply.TheVariants.{Done, Setting, Length, Nothing, Full, Spent}
use Rattle.walk.specs.Walk.{Finds, Rules, rules_of, level, Run, ended, spent, full, run}

-- how planning a system ends: the level, the steps, and for done the sets
pub data Ending : Type 0 where
  done : ℕ → ℕ → Finds → Ending
  none : ℕ → ℕ → Ending
  full_at : ℕ → ℕ → Ending
  spent_at : ℕ → ℕ → Ending

-- what follows the run of level k under a limit, where `next` is the levels above it
unfoldable pub settled : ℕ → ℕ → (ℕ → Ending) → Run → Ending
settled limit k next (ended taken []) = next taken
settled limit k next (ended taken (s ∷ l)) = done k taken (s ∷ l)
settled limit k next spent = spent_at k limit
settled limit k next (full taken) = full_at k taken

module _ (r : Rules) (n : ℕ) (fs : List (Poly Mono)) (limit room : ℕ) where
  -- the levels from k on, `left` of them, with the steps taken before
  unfoldable pub levels : ℕ → ℕ → ℕ → Ending
  levels zero k taken = none k taken
  levels (suc left) k taken = settled limit k (levels left (suc k)) (run limit room (level r n fs k) taken [])

  -- levels 0 to the cap
  unfoldable pub plan : ℕ → Ending
  plan cap = levels (suc cap) 0 0

-- the bytes of a list of sets
unfoldable pub sets_bytes : Finds → List ℕ
sets_bytes l = gather set_record l

-- an ending as it is said: the sets and then zeros; or only zeros
unfoldable pub said : Ending → ℕ → Outcome
said (done order steps sets) size = outcome (Done order (length sets) steps) (sets_bytes sets ++ replicate (size - set_bytes * length sets) 0)
said (none order steps) size = refused (Nothing order steps) size
said (full_at order steps) size = refused (Full order steps) size
said (spent_at order steps) size = refused (Spent order steps) size

-- the number of variables, the marks, the kit, the cap and the limit are in range
unfoldable pub settings_right : Panel → ℕ → ℕ → Bool
settings_right panel cap limit = panel_right panel && leb cap cards && leb 1 limit && leb limit most_steps

unfoldable pub planned : Panel → ℕ → ℕ → List ℕ → ℕ → Outcome
planned panel cap limit terms size =
    let walk = said (plan (rules_of panel) panel.n (system (records terms)) limit (size / set_bytes) cap) size in
    let read = unless_fault (λ r. refused r size) (fault panel (records terms)) walk in
    let long = cond (length_right terms) read (refused Length size) in
    cond (settings_right panel cap limit) long (refused Setting size)
