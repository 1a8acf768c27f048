-- The rule of the table of claims, and what its steps tell.
use Rattle.std.specs.Prelude.{◌≡◌, ℕ, ◌+◌, ◌<◌, ◌≤◌, ◌⊎◌, ◌^◌, min, List, [], ◌∷◌, ◌++◌, length, map, Bool, true, false, nat_lt}
use Rattle.atomic_table.specs.Table.{State, Me, Step, rest}
use mathlib.Core.Option.{Option, some, none}
use lib.ListN.{get_elem?}
use Rattle.claim_crew.specs.declared.rule.Progress.{Progress}
use Rattle.claim_crew.specs.Claimed.{sum_of, sum_below, joined_all}

-- the flag, read as a truth value
abbrev pub is_positive : ℕ → Bool
is_positive n = nat_lt 0 n

-- an item's number, the item before and after
abbrev pub Entry : Type 0 → Type 0
Entry T = ℕ × T × T

module _ {T : Type 0} where
  -- the progress of this many workers before any step, over the items start
  abbrev pub fresh : List T → ℕ → Progress T
  fresh start workers = record { start = start; workers = workers; misses = 0; drawn_below = 0; finished = false; claimed = []; log = [] }

  -- the progress of two seats that became one, neither of which has an item
  abbrev pub joined : Progress T → Progress T → Progress T
  joined v w = record { start = v.start; workers = v.workers + w.workers; misses = v.misses + w.misses; drawn_below = v.drawn_below; finished = v.finished; claimed = []; log = w.log ++ v.log }

  -- the progress once the number n was drawn and its item x claimed
  abbrev pub holding : Progress T → ℕ → T → Progress T
  holding v n x = record { start = v.start; workers = v.workers; misses = v.misses; drawn_below = n + 1; finished = v.finished; claimed = (n, x) ∷ []; log = v.log }

  -- the progress after the draw of a number that no item has
  abbrev pub passed : Progress T → ℕ → Progress T
  passed v n = record { start = v.start; workers = v.workers; misses = v.misses + 1; drawn_below = n + 1; finished = true; claimed = v.claimed; log = v.log }

  -- the progress once an item is put back, and finished is whether the flag was seen
  abbrev pub settled : Progress T → Bool → List (ℕ × T) → Progress T
  settled v finished [] = record { start = v.start; workers = v.workers; misses = v.misses; drawn_below = v.drawn_below; finished = finished; claimed = v.claimed; log = v.log }
  settled v finished (c ∷ cs) = record { start = v.start; workers = v.workers; misses = v.misses; drawn_below = v.drawn_below; finished = finished; claimed = []; log = v.log ++ map (λ t. (t.0, t.1, c.1)) v.claimed }

  -- a draw claims the item of its number, if there is one
  abbrev pub Drew : Step T → Me T (Progress T) → ℕ → Me T (Progress T) → Type 0
  Drew st v n w =
      (v.0.drawn_below ≤ n) × (n < st.slots → (x : T) × (get_elem? v.0.start n ≡ some x) × (w ≡ (holding v.0 n x, (n, x) ∷ v.1))) × (st.slots ≤ n → w ≡ (passed v.0 n, v.1))

  -- a look at the flag puts the item back, and keeps whether the flag was set
  abbrev pub Looked : Step T → Me T (Progress T) → ℕ → Me T (Progress T) → Type 0
  Looked st v n w = w ≡ (settled v.0 (is_positive n) v.1, rest v.1)

  -- to set the flag puts the item back
  abbrev pub Stopped : Step T → Me T (Progress T) → ℕ → Me T (Progress T) → Type 0
  Stopped st v n w = w ≡ (settled v.0 true v.1, rest v.1)

  -- the sum of f over the numbers of items that were drawn
  abbrev pub drawn : (ℕ → ℕ) → Progress T → ℕ
  drawn f v = sum_of (λ p. f p.0) v.log + sum_of (λ t. f t.0) v.claimed

  -- what the rule says of the progress of one seat, j, where n is the counter and homes the slots
  pub record ProgressFits (xs : List T) (owner : ℕ → ℕ) (n flag : ℕ) (homes : List (Option T)) (j : ℕ) (v : Progress T) : Type 0 where
    pub misses : v.misses ≤ v.workers
    pub start : 0 < v.workers → v.start ≡ xs
    pub idle : v.workers ≡ 0 → (v.claimed ≡ []) × (v.log ≡ [])
    pub drawn_below : v.drawn_below ≤ n
    pub finished : v.finished ≡ true → (length xs ≤ n) ⊎ (0 < flag)
    pub out : (i : ℕ) (t : ℕ × T) → get_elem? v.claimed i ≡ some t
        → (owner t.0 ≡ j) × (t.0 < n) × (get_elem? homes t.0 ≡ some none) × (get_elem? xs t.0 ≡ some t.1)
    pub back : (i : ℕ) (p : Entry T) → get_elem? v.log i ≡ some p
        → (p.0 < n) × (get_elem? homes p.0 ≡ some (some p.2)) × (get_elem? xs p.0 ≡ some p.1)

  -- an item that failed is at home, with a number below n
  abbrev pub HasFailed : (T → Bool) → ℕ → List (Option T) → Type 0
  HasFailed fails n homes = (k : ℕ) × (y : T) × (k < n) × (get_elem? homes k ≡ some (some y)) × (fails y ≡ true)

  -- the seat j has the item k
  abbrev pub IsOut : List (Progress T) → ℕ → ℕ → Type 0
  IsOut views j k = (v : Progress T) × (get_elem? views j ≡ some v) × (i : ℕ) × (t : ℕ × T) × (get_elem? v.claimed i ≡ some t) × (t.0 ≡ k)

  -- The counter's rule, true between any two steps: xs are the items before any work, n is the counter, and owner says who drew a number.
  pub record CounterInvariant (fails : T → Bool) (xs : List T) (workers : ℕ) (s : State T (Progress T)) : Type 0 where
    pub n : ℕ
    pub flag : ℕ
    pub owner : ℕ → ℕ
    pub words : s.words ≡ n ∷ flag ∷ []
    pub flag_is : flag ≤ 1
    pub sized : length s.homes ≡ length xs
    pub small : length xs + workers < 2 ^ 64
    pub workers_are : sum_of (λ v. v.workers) s.views ≡ workers
    pub bound : n ≤ length xs + sum_of (λ v. v.misses) s.views
    pub counted : (f : ℕ → ℕ) → sum_of (drawn f) s.views ≡ sum_below f (min n (length xs))
    pub untouched : (k : ℕ) (x : T) → n ≤ k → get_elem? xs k ≡ some x → get_elem? s.homes k ≡ some (some x)
    pub lent : (k : ℕ) → get_elem? s.homes k ≡ some none → IsOut s.views (owner k) k
    pub stop : 0 < flag → HasFailed fails n s.homes
    pub fits : (j : ℕ) (v : Progress T) → get_elem? s.views j ≡ some v → ProgressFits xs owner n flag s.homes j v

  -- The items xs became ys: those below one number are logged, each once and at its own place, and the others are as they were.
  -- Where some are left, one of the logged ones failed
  pub record Settled (fails : T → Bool) (xs ys : List T) (log : List (Entry T)) : Type 0 where
    pub n : ℕ
    pub within : n ≤ length xs
    pub same_length : length ys ≡ length xs
    pub counted : (f : ℕ → ℕ) → sum_of (λ p. f p.0) log ≡ sum_below f n
    pub logged : (i : ℕ) (p : Entry T) → get_elem? log i ≡ some p → (p.0 < n) × (get_elem? xs p.0 ≡ some p.1) × (get_elem? ys p.0 ≡ some p.2)
    pub left : (k : ℕ) (x : T) → n ≤ k → get_elem? xs k ≡ some x → get_elem? ys k ≡ some x
    pub stop : n < length xs → (k : ℕ) × (y : T) × (k < n) × (get_elem? ys k ≡ some y) × (fails y ≡ true)

  -- the item k is out with a seat, with y in its slot, and was x when it was claimed
  abbrev pub Holds : ℕ → Me T (Progress T) → T → T → Type 0
  Holds k me x y = (me.0.claimed ≡ (k, x) ∷ []) × (me.1 ≡ (k, y) ∷ [])

  -- a seat that has not begun, with this many parts; each item may be worked on
  pub record Starts (may : ℕ → T → Type 0) (workers : ℕ) (me : Me T (Progress T)) : Type 0 where
    pub is_fresh : me.0 ≡ fresh me.0.start workers
    pub none_out : me.1 ≡ []
    pub can : (k : ℕ) (x : T) → get_elem? me.0.start k ≡ some x → may k x

  -- the progress once the item k was claimed as x and put back as y
  abbrev pub processed : Progress T → ℕ → T → T → Bool → Progress T
  processed v k x y finished = record { start = v.start; workers = v.workers; misses = v.misses; drawn_below = v.drawn_below; finished = finished; claimed = []; log = v.log ++ (k, x, y) ∷ [] }

  -- an item that failed is the last of its worker
  abbrev pub LastFails : (T → Bool) → List (Entry T) → Type 0
  LastFails fails log = (i : ℕ) (p : Entry T) → get_elem? log i ≡ some p → fails p.2 ≡ true → i + 1 ≡ length log

  -- of each worker, an item that failed is the last
  abbrev pub EachLastFails : (T → Bool) → List (List (Entry T)) → Type 0
  EachLastFails fails [] = Unit {0}
  EachLastFails fails (l ∷ ls) = LastFails fails l × EachLastFails fails ls

module _ {T H : Type 0} (does : ℕ → T → H → T → H → Type 0) where
  -- a hand does these in order
  abbrev pub Did : List (Entry T) → H → H → Type 0
  Did [] d e = d ≡ e
  Did (p ∷ ps) d e = (m : H) × does p.0 p.1 d p.2 m × Did ps m e

  -- each hand did its log
  abbrev pub DidAll : List (List (Entry T)) → List H → List H → Type 0
  DidAll [] [] [] = Unit {0}
  DidAll (l ∷ ls) (d ∷ ds) (e ∷ es) = Did l d e × DidAll ls ds es
  DidAll _ _ _ = ⊥

  -- the item k was worked on once
  abbrev pub Worked : (T → Bool) → ℕ → Me T (Progress T) → Me T (Progress T) → H → H → Bool → Type 0
  Worked fails k me me' d e bad = (me'.0 ≡ me.0) × (x : T) × (y : T) × Holds k me' x y × does k x d y e × (bad ≡ fails y)

  -- the item k was worked on once, and is back
  abbrev pub Processed : (T → Bool) → ℕ → Me T (Progress T) → Me T (Progress T) → H → H → Bool → Type 0
  Processed fails k me me' d e finished = (x : T) × (y : T) × does k x d y e × (me' ≡ (processed me.0 k x y finished, [])) × (fails y ≡ true → finished ≡ true)

  -- a worker that is done, with no item: what it logged is what its hand did
  pub record IsDone (fails : T → Bool) (workers : ℕ) (me : Me T (Progress T)) (d e : H) : Type 0 where
    pub workers_are : me.0.workers ≡ workers
    pub is_finished : me.0.finished ≡ true
    pub none_claimed : me.0.claimed ≡ []
    pub none_out : me.1 ≡ []
    pub did : Did me.0.log d e
    pub last : LastFails fails me.0.log

  -- the workers of these hands are done
  pub record AreDone (fails : T → Bool) (workers : ℕ) (me : Me T (Progress T)) (ds es : List H) : Type 0 where
    pub workers_are : me.0.workers ≡ workers
    pub is_finished : me.0.finished ≡ true
    pub none_claimed : me.0.claimed ≡ []
    pub none_out : me.1 ≡ []
    pub logs : List (List (Entry T))
    pub log_is : me.0.log ≡ joined_all logs
    pub did : DidAll logs ds es
    pub last : EachLastFails fails logs
