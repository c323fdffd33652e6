-- Exactly where a run of steps ends, said of the list of steps alone: it takes all of them, or stops at the limit, or meets a find for which there
-- is no room. Assumes nothing.
use mathlib.Core.Path.{◌≡◌, refl, sym, ap, ap₂, ◌∙◌, subst}
use mathlib.Core.Logic.{◌↔◌, ◌⊎◌, inl, inr, ⊎_elim}
use mathlib.Core.List.Memᴰ
use mathlib.Core.List.{List, [], ◌∷◌}
use Prim.Native.Nat.{ℕ, zero, suc, ◌+◌, ◌-◌, ◌<◌, ◌≤◌}
use native.Mathlib.Omega.{arith}
use borrow.Author.Tests.{leb-true, leb-false, le-leb, lt-leb}
use lib.Dec.{leb}
use lib.ListN.{length, take}
use lib.Seq.{take_all}
use Rattle.monomial.specs.Lists.{any, insert_by}
use Rattle.monomial.specs.Monomial.{Mono}
use Rattle.monomial.specs.Order.{same_set, before_set}
use Rattle.monomial.specs.Claims.{◌∈◌, ◌⊆◌, Ascending, empty}
use Rattle.monomial.proofs.Tests.{Tested, passed, failed, test, is→n_t, cond_cases}
use Rattle.monomial.proofs.Members.{there}
use Rattle.monomial.proofs.order.Laws.{set_order}
use Rattle.monomial.proofs.order.Ascending.{insert_out, insert_new, insert_old, insert_asc, insert_length, among_in, among_out}
use Rattle.walk.specs.Walk.{Finds, Step, found, other, Run, ended, spent, full, kept, onward, run}
use Rattle.walk.specs.Claims.{noted, listed, distinct, RunEnds, RunStops, RunFills, RunFate}
use Rattle.walk.proofs.Steps.{run_stops, run_other, run_found}

-- ---- the sets that steps find, ascending, each once
-- a step finds one set or none
noted_length : (e : Step) (finds : Finds) → (length finds ≤ length (noted e finds)) × (length (noted e finds) ≤ suc (length finds))
unfolding noted
noted_length (other t) finds = (omega arith, omega arith)
noted_length (found s) finds = go (test (any (same_set s) finds))
  where
    go : Tested (any (same_set s) finds) → (length finds ≤ length (noted (found s) finds)) × (length (noted (found s) finds) ≤ suc (length finds))
    go (passed b) = rw b (omega arith, omega arith)
    go (failed b) =
        let l : length (insert_by same_set before_set s finds) ≡ suc (length finds) =
        insert_length set_order s finds (λ k. is→n_t (any (same_set s) finds) b (among_in set_order k)) in
        rw b (omega arith, omega arith)

listed_length : (es : List Step) (finds : Finds) → length finds ≤ length (listed finds es)
unfolding listed
listed_length [] finds = omega arith
listed_length (e ∷ es) finds =
    let own : length finds ≤ length (noted e finds) = (noted_length e finds).0 in
    let ih : length (noted e finds) ≤ length (listed (noted e finds) es) = listed_length es (noted e finds) in
    omega arith

-- more steps find no fewer
listed_more : (es : List Step) (finds : Finds) (a b : ℕ) → a ≤ b → length (listed finds (take a es)) ≤ length (listed finds (take b es))
unfolding listed
listed_more [] finds zero b h = listed_length (take b []) finds
listed_more [] finds (suc a) zero h = let z : ⊥ = omega arith in absurd z
listed_more [] finds (suc a) (suc b) h = omega arith
listed_more (e ∷ es) finds zero b h = listed_length (take b (e ∷ es)) finds
listed_more (e ∷ es) finds (suc a) zero h = let z : ⊥ = omega arith in absurd z
listed_more (e ∷ es) finds (suc a) (suc b) h = listed_more es (noted e finds) a b (omega arith)

-- they ascend, those found before stay, and each is one of these or a find of the steps
noted_asc : (e : Step) (finds : Finds) → Ascending before_set finds → Ascending before_set (noted e finds)
unfolding noted
noted_asc (other t) finds a = a
noted_asc (found s) finds a =
    cond_cases (Ascending before_set) (any (same_set s) finds) finds (insert_by same_set before_set s finds) (λ t. a) (λ f. insert_asc set_order s finds a)

noted_keeps : (e : Step) (finds : Finds) → finds ⊆ noted e finds
unfolding noted
noted_keeps (other t) finds x h = h
noted_keeps (found s) finds x h =
    cond_cases (λ r. x ∈ r) (any (same_set s) finds) finds (insert_by same_set before_set s finds) (λ t. h) (λ f. insert_old set_order s finds h)

noted_new : (s : List Mono) (finds : Finds) → s ∈ noted (found s) finds
unfolding noted
noted_new s finds =
    cond_cases (λ r. s ∈ r) (any (same_set s) finds) finds (insert_by same_set before_set s finds)
    (λ t. among_out set_order s finds t) (λ f. insert_new set_order s finds)

noted_out : (e : Step) (finds : Finds) (x : List Mono) → x ∈ noted e finds → (x ∈ finds) ⊎ (found x ≡ e)
unfolding noted
noted_out (other t) finds x = λ h. inl h
noted_out (found s) finds x =
    cond_cases (λ r. x ∈ r → (x ∈ finds) ⊎ (found x ≡ found s)) (any (same_set s) finds) finds (insert_by same_set before_set s finds)
    (λ t h. inl h)
    (λ f h. ⊎_elim (λ e. inr (ap found e)) (λ k. inl k) (insert_out set_order s finds h))

listed_asc : (es : List Step) (finds : Finds) → Ascending before_set finds → Ascending before_set (listed finds es)
unfolding listed
listed_asc [] finds a = a
listed_asc (e ∷ es) finds a = listed_asc es (noted e finds) (noted_asc e finds a)

listed_keeps : (es : List Step) (finds : Finds) → finds ⊆ listed finds es
unfolding listed
listed_keeps [] finds x h = h
listed_keeps (e ∷ es) finds x h = listed_keeps es (noted e finds) x (noted_keeps e finds x h)

listed_in : (es : List Step) (finds : Finds) (x : List Mono) → found x ∈ es → x ∈ listed finds es
unfolding listed
listed_in [] finds x h = absurd (Memᴰ.not-nil h)
listed_in (e ∷ es) finds x h =
    ⊎_elim
    (λ q. listed_keeps es (noted e finds) x (subst (λ (y : Step). x ∈ noted y finds) q (noted_new x finds)))
    (λ k. listed_in es (noted e finds) x k)
    (Memᴰ.cases_cons h)

listed_out : (es : List Step) (finds : Finds) (x : List Mono) → x ∈ listed finds es → (x ∈ finds) ⊎ (found x ∈ es)
unfolding listed
listed_out [] finds x h = inl h
listed_out (e ∷ es) finds x h =
    ⊎_elim
    (λ k. ⊎_elim (λ j. inl j) (λ q. inr (Memᴰ.head q)) (noted_out e finds x k))
    (λ k. inr (there k))
    (listed_out es (noted e finds) x h)

pub distinct_asc : (es : List Step) → Ascending before_set (distinct es)
distinct_asc es = listed_asc es [] empty

pub distinct_in : (es : List Step) (x : List Mono) → found x ∈ es → x ∈ distinct es
distinct_in es x h = listed_in es [] x h

pub distinct_out : (es : List Step) (x : List Mono) → x ∈ distinct es → found x ∈ es
distinct_out es x h = ⊎_elim (λ k. absurd (Memᴰ.not-nil k)) (λ k. k) (listed_out es [] x h)

-- ---- a run
module _ (limit room : ℕ) where
  -- a step within the limit: its find has room, or has none
  step_on : (e : Step) (es : List Step) (taken : ℕ) (finds : Finds) → taken < limit → length finds ≤ room → length (noted e finds) ≤ room
      → run limit room (e ∷ es) taken finds ≡ run limit room es (suc taken) (noted e finds)
  unfolding noted kept onward
  step_on (other t) es taken finds h r f = run_other limit room es taken finds t h
  step_on (found s) es taken finds h r f = run_found limit room es taken finds s h ∙ go (test (any (same_set s) finds))
    where
      go : Tested (any (same_set s) finds) → onward (kept room s (suc taken) finds) (run limit room es) ≡ run limit room es (suc taken) (noted (found s) finds)
      go (passed b) = rw b
      go (failed b) =
          let l : length (insert_by same_set before_set s finds) ≡ suc (length finds) =
          insert_length set_order s finds (λ k. is→n_t (any (same_set s) finds) b (among_in set_order k)) in
          let more : length (insert_by same_set before_set s finds) ≤ room = rw b at f in
          let small : length finds < room = omega arith in
          rw (b, lt-leb room (length finds) small)

  step_full : (e : Step) (es : List Step) (taken : ℕ) (finds : Finds) → taken < limit → length finds ≤ room → room < length (noted e finds)
      → run limit room (e ∷ es) taken finds ≡ full (suc taken)
  unfolding noted kept onward
  step_full (other t) es taken finds h r f = let z : ⊥ = omega arith in absurd z
  step_full (found s) es taken finds h r f = run_found limit room es taken finds s h ∙ go (test (any (same_set s) finds))
    where
      go : Tested (any (same_set s) finds) → onward (kept room s (suc taken) finds) (run limit room es) ≡ full (suc taken)
      go (passed b) = let same : room < length finds = rw b at f in let z : ⊥ = omega arith in absurd z
      go (failed b) =
          let l : length (insert_by same_set before_set s finds) ≡ suc (length finds) =
          insert_length set_order s finds (λ k. is→n_t (any (same_set s) finds) b (among_in set_order k)) in
          let more : room < length (insert_by same_set before_set s finds) = rw b at f in
          let all : room ≤ length finds = omega arith in
          rw (b, le-leb room (length finds) all)

  -- one step before a run
  earlier : (e : Step) (es : List Step) (taken : ℕ) (finds : Finds) (r : Run) → taken < limit → RunFate limit room es (suc taken) (noted e finds) r → RunFate limit room (e ∷ es) taken finds r
  unfolding listed
  earlier e es taken finds (ended t l) h f = let s : t ≡ suc taken + length es = f.steps in record { steps = omega arith; within = f.within; sets = f.sets; roomy = f.roomy }
  earlier e es taken finds spent h f =
      let o : limit < suc taken + length es = f.over in
      let z : limit - taken ≡ suc (limit - suc taken) = omega arith in
      record { over = omega arith; roomy = rw z f.roomy }
  earlier e es taken finds (full t) h f =
      let s : t ≡ suc taken + suc f.at = f.steps in
      let i : f.at < length es = f.inside in
      record { at = suc f.at; inside = omega arith; steps = omega arith; within = f.within; filled = f.filled; more = f.more }

  run_fate : (es : List Step) (taken : ℕ) (finds : Finds) → taken ≤ limit → length finds ≤ room → RunFate limit room es taken finds (run limit room es taken finds)
  unfolding run listed
  run_fate [] taken finds h r = record { steps = omega arith; within = h; sets = refl; roomy = r }
  run_fate (e ∷ es) taken finds h r = go (test (leb limit taken)) (test (leb (length (noted e finds)) room)) (run_fate es (suc taken) (noted e finds))
    where
      go : Tested (leb limit taken) → Tested (leb (length (noted e finds)) room)
          → (suc taken ≤ limit → length (noted e finds) ≤ room → RunFate limit room es (suc taken) (noted e finds) (run limit room es (suc taken) (noted e finds)))
          → RunFate limit room (e ∷ es) taken finds (run limit room (e ∷ es) taken finds)
      go (passed p) q ih =
          let k : limit ≤ taken = leb-true limit taken p in
          let z : limit - taken ≡ 0 = omega arith in
          let stop : RunStops limit room (e ∷ es) taken finds = record { over = omega arith; roomy = rw z r } in
          subst (RunFate limit room (e ∷ es) taken finds) (sym (run_stops limit room es taken finds e k)) stop
      go (failed p) (passed q) ih =
          let k : taken < limit = leb-false limit taken p in
          let f : length (noted e finds) ≤ room = leb-true (length (noted e finds)) room q in
          let later = earlier e es taken finds (run limit room es (suc taken) (noted e finds)) k (ih (omega arith) f) in
          subst (RunFate limit room (e ∷ es) taken finds) (sym (step_on e es taken finds k r f)) later
      go (failed p) (failed q) ih =
          let k : taken < limit = leb-false limit taken p in
          let f : room < length (noted e finds) = leb-false (length (noted e finds)) room q in
          let one : length (noted e finds) ≤ suc (length finds) = (noted_length e finds).1 in
          let fill : RunFills limit room (e ∷ es) taken finds (suc taken) =
          record { at = 0; inside = omega arith; steps = omega arith; within = omega arith; filled = omega arith; more = omega arith } in
          subst (RunFate limit room (e ∷ es) taken finds) (sym (step_full e es taken finds k r f)) fill

  -- one of the three holds, and of one run
  module _ (es : List Step) (taken : ℕ) (finds : Finds) where
    whole : listed finds es ≡ listed finds (take (length es) es)
    whole = ap (listed finds) (sym (take_all (length es) es (omega arith)))

    not_both : (t u : ℕ) (l : Finds) → RunEnds limit room es taken finds t l → RunFills limit room es taken finds u → ⊥
    not_both t u l a b =
        let more : length (listed finds (take (suc b.at) es)) ≤ length (listed finds (take (length es) es)) = listed_more es finds (suc b.at) (length es) b.inside in
        let e : length l ≡ length (listed finds (take (length es) es)) = ap length (a.sets ∙ whole) in
        let r : length l ≤ room = a.roomy in
        let m : length (listed finds (take (suc b.at) es)) ≡ suc room = b.more in
        omega arith

    not_after : (u : ℕ) → RunStops limit room es taken finds → RunFills limit room es taken finds u → ⊥
    not_after u a b =
        let s : u ≡ taken + suc b.at = b.steps in
        let w : u ≤ limit = b.within in
        let more : length (listed finds (take (suc b.at) es)) ≤ length (listed finds (take (limit - taken) es)) = listed_more es finds (suc b.at) (limit - taken) (omega arith) in
        let r : length (listed finds (take (limit - taken) es)) ≤ room = a.roomy in
        let m : length (listed finds (take (suc b.at) es)) ≡ suc room = b.more in
        omega arith

    not_over : (t : ℕ) (l : Finds) → RunEnds limit room es taken finds t l → RunStops limit room es taken finds → ⊥
    not_over t l a b =
        let s : t ≡ taken + length es = a.steps in
        let w : t ≤ limit = a.within in
        let o : limit < taken + length es = b.over in
        omega arith

    not_sooner : (a b : ℕ) → length (listed finds (take (suc a) es)) ≡ suc room → length (listed finds (take b es)) ≡ room → a < b → ⊥
    not_sooner a b m f h =
        let more : length (listed finds (take (suc a) es)) ≤ length (listed finds (take b es)) = listed_more es finds (suc a) b h in
        omega arith

    run_one : (r r' : Run) → RunFate limit room es taken finds r → RunFate limit room es taken finds r' → r ≡ r'
    run_one (ended t l) (ended u k) a b = ap₂ ended (a.steps ∙ sym b.steps) (a.sets ∙ sym b.sets)
    run_one (ended t l) spent a b = absurd (not_over t l a b)
    run_one (ended t l) (full u) a b = absurd (not_both t u l a b)
    run_one spent (ended u k) a b = absurd (not_over u k b a)
    run_one spent spent a b = refl
    run_one spent (full u) a b = absurd (not_after u a b)
    run_one (full t) (ended u k) a b = absurd (not_both u t k b a)
    run_one (full t) spent a b = absurd (not_after t b a)
    run_one (full t) (full u) a b =
        let left : a.at < b.at → ⊥ = not_sooner a.at b.at a.more b.filled in
        let right : b.at < a.at → ⊥ = not_sooner b.at a.at b.more a.filled in
        let s : t ≡ taken + suc a.at = a.steps in
        let w : u ≡ taken + suc b.at = b.steps in
        ap full (omega arith)

    pub run_exact : (r : Run) → taken ≤ limit → length finds ≤ room → (run limit room es taken finds ≡ r) ↔ RunFate limit room es taken finds r
    run_exact r h k =
        let own = run_fate es taken finds h k in
        (λ e. subst (RunFate limit room es taken finds) e own, λ f. run_one (run limit room es taken finds) r own f)
