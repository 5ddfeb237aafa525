-- The promises over every list of calls, as promises about what is linked: a table made new and then called is the one that the calls make, and the words are their answers.
use Rattle.std.specs.Prelude.{ℕ, ◌<◌, ◌≡◌, refl, ◌≢◌, Bool, true, false, cond, List, [], ◌∷◌, ◌++◌, map, length, eqb, Option, Some, None, option_map, Ok, Err}
use Rattle.std.proofs.Common.{arith, sym, ◌∙◌, append_assoc, append-nil}
use Rattle.std.proofs.Math.Path.{ap}
use Rattle.rules.specs.Types.{Answer}
use Rattle.rules.specs.declared.Grant.TheVariants.{Done, Made, Handed, Reaped, Joined, Blocked}
use Rattle.rules.specs.Sizes.{hart_count}
use Rattle.rules.specs.Model.{Table, fresh, hart_at, slot}
use Rattle.rules.specs.Answers.{values_of}
use Rattle.rules.specs.Runs.{Call, dispatch, step, run, run_by}
use Rattle.promises.specs.FirstOut.{Turn, FirstInFirstOut, handed_out}
use Rattle.promises.proofs.FirstOut.{first-in-first-out}
use Rattle.promises.specs.Demand3.{DispatchRule}
use Rattle.promises.proofs.Demand3.{dispatch-granted}
use Rattle.promises.specs.Reached.{reached}
use Rattle.words.specs.Reading.{table_of}
use Rattle.answers.specs.Words.{word_of, coded}
use Rattle.anwalghid.specs.Exports.{After, kept, done, on_one, allowed, renewed, Renewed, called, Exported}

-- the lent tables are the one that the calls cs make of a fresh one, so every promise of `reached cs` is one about it
abbrev pub Reads : List (List ℕ) → List Call → Type 0
Reads ts cs = map table_of ts ≡ reached cs ∷ []

run-after : (t : Table) (bs cs : List Call) → (run t (bs ++ cs)).table ≡ (run (run t bs).table cs).table
unfolding run run_by
run-after t [] cs = refl
run-after t (b ∷ bs) cs = run-after (step t b).table bs cs

-- one call more
reached-more : (cs : List Call) (c : Call) → reached (cs ++ (c ∷ [])) ≡ (step (reached cs) c).table
unfolding run run_by
reached-more cs c = run-after fresh cs (c ∷ [])

pub renewed-reads : (w : List ℕ) {us : List (List ℕ)} → Renewed (w ∷ []) 0 us → Reads us []
unfolding on_one done renewed run run_by
renewed-reads w p = ap (λ (x : After (Unit {0})). x.tables) p.leaves.after

-- ---- one call
module _ (cs : List Call) {c : Call} {ts us : List (List ℕ)} {a d : List ℕ} (r : Reads ts cs) (p : Exported (Some c) ts a 0 us d) where
  after : ◌≡◌ {A = After (List ℕ)} (record { code = 0; tables = map table_of us; lent = d }) (on_one (Some (called c)) (reached cs ∷ []) a)
  after = rw r at p.leaves.after

  -- code 0: the table is the one that this call makes of it ..
  pub exported-reads : Reads us (cs ++ (c ∷ []))
  unfolding on_one done called
  exported-reads = ap (λ (x : After (List ℕ)). x.tables) after ∙ ap (λ t. t ∷ []) (sym (reached-more cs c))

  -- .. and the three words are its answer there
  pub exported-answers : d ≡ coded (step (reached cs) c).answer
  unfolding on_one done called
  exported-answers = ap (λ (x : After (List ℕ)). x.lent) after

none-code : (ts : List Table) (a : List ℕ) → (on_one None ts a).code ≢ 0
unfolding on_one done kept
none-code [] a e = omega (arith, e)
none-code (t ∷ []) a e = omega (arith, e)
none-code (t ∷ u ∷ l) a e = omega (arith, e)

-- code 0: an argument that has a range was in it
pub exported-made : (b : Bool) {c : Call} {ts us : List (List ℕ)} {a d : List ℕ} → Exported (allowed b c) ts a 0 us d → Exported (Some c) ts a 0 us d
unfolding allowed
exported-made true p = p
exported-made false {ts = ts} {a = a} p = absurd (none-code (map table_of ts) a (sym (ap (λ (x : After (List ℕ)). x.code) p.leaves.after)))

lent-kept : {A : Type 0} (f : Option (Table → Table × A)) (ts : List Table) (a : A) → (on_one f ts a).code ≢ 0 → (on_one f ts a).lent ≡ a
unfolding on_one done kept
lent-kept f [] a n = refl
lent-kept (Some f) (t ∷ []) a n = absurd (n refl)
lent-kept None (t ∷ []) a n = refl
lent-kept f (t ∷ u ∷ l) a n = refl

-- codes 1 and 2: no word of tables or answer is touched
pub exported-leaves : (c : Option Call) {ts us : List (List ℕ)} {a d : List ℕ} {code : ℕ} → Exported c ts a code us d → code ≢ 0 → (us ≡ ts) × (d ≡ a)
exported-leaves c {ts} {a = a} p n =
    let e = p.leaves.after in
    (p.leaves.untouched n, ap (λ (x : After (List ℕ)). x.lent) e ∙ lent-kept (option_map called c) (map table_of ts) a (λ z. n (ap (λ (x : After (List ℕ)). x.code) e ∙ z)))

-- ---- many calls, one after the other, from the tables ts to us: `cs` are those that were made, `ws` the words of their answers
pub data Linked : List (List ℕ) → List Call → List (List ℕ) → List (List ℕ) → Type 0 where
  end : {ts : List (List ℕ)} → Linked ts [] [] ts
  made : {c : Call} {cs : List Call} {ts us vs ws : List (List ℕ)} {a d : List ℕ} → Exported (Some c) ts a 0 us d → Linked us cs ws vs → Linked ts (c ∷ cs) (d ∷ ws) vs
  -- codes 1 and 2
  left : {c : Option Call} {cs : List Call} {ts us vs ws : List (List ℕ)} {a d : List ℕ} {code : ℕ} → Exported c ts a code us d → code ≢ 0 → Linked us cs ws vs → Linked ts cs ws vs

pub linked-reads : (before : List Call) {cs : List Call} {ts us ws : List (List ℕ)} → Reads ts before → Linked ts cs ws us → Reads us (before ++ cs)
linked-reads before r end = rw append-nil r
linked-reads before r (made {c} {cs} p l) = rw append_assoc at (linked-reads (before ++ (c ∷ [])) (exported-reads before r p) l)
linked-reads before r (left {c} p n l) = linked-reads before (rw (← (exported-leaves c p n).0) at r) l

-- the words are the answers of a run of these calls
pub linked-answers : (before : List Call) {cs : List Call} {ts us ws : List (List ℕ)} → Reads ts before → Linked ts cs ws us → ws ≡ map coded (run (reached before) cs).answers
unfolding run run_by
linked-answers before r end = refl
linked-answers before r (made {c} {cs} {ws = ws} p l) =
    let e : ws ≡ map coded (run (step (reached before) c).table cs).answers = rw (reached-more before c) at (linked-answers (before ++ (c ∷ [])) (exported-reads before r p) l) in
    rw (e, exported-answers before r p)
linked-answers before r (left {c} p n l) = linked-answers before (rw (← (exported-leaves c p n).0) at r) l

-- ---- first in, first out
-- the slots that words tell of: 2, the slot, 0
unfoldable pub told_by : List ℕ → List ℕ
told_by [] = []
told_by (x ∷ []) = []
told_by (x ∷ s ∷ l) = cond (eqb x 2) (s ∷ []) []

unfoldable pub told : List (List ℕ) → List ℕ
told [] = []
told (d ∷ ws) = told_by d ++ told ws

told-coded : (l : List Answer) → told (map coded l) ≡ handed_out l
unfolding told told_by coded values_of word_of handed_out
told-coded [] = refl
told-coded (Ok Done ∷ l) = told-coded l
told-coded (Ok (Made p) ∷ l) = told-coded l
told-coded (Ok (Handed s) ∷ l) = ap (λ (k : List ℕ). s.0 ∷ k) (told-coded l)
told-coded (Ok (Reaped p x) ∷ l) = told-coded l
told-coded (Ok (Joined x) ∷ l) = told-coded l
told-coded (Ok Blocked ∷ l) = told-coded l
told-coded (Err r ∷ l) = told-coded l

module _ (before : List Call) {w v : List ℕ} (r : Reads (w ∷ []) before) where
  -- the slot with k ahead in the lent table w, where the words tell of the slots that the calls hand out, and v is the table then
  pub linked-turn : {cs : List Call} {ws : List (List ℕ)} → Linked (w ∷ []) cs ws (v ∷ []) → (k : ℕ) → k < length (table_of w).core.queue
      → Turn (table_of w).core.queue (told ws) (table_of v).core.queue k
  unfolding FirstInFirstOut run
  linked-turn {cs} {ws} l k here =
      let e : table_of w ≡ reached before = cc in
      let f : table_of v ≡ reached (before ++ cs) = let x = linked-reads before r l in cc in
      let g : told ws ≡ handed_out (run (reached before) cs).answers = ap told (linked-answers before r l) ∙ told-coded _ in
      rw (e, f, g, run-after fresh before cs) (first-in-first-out before cs k (rw e at here))

  -- the dispatch rule: while a slot waits, an idle hart is told the head; it runs there, and the rest stays in its order
  pub linked-dispatch : (h s : ℕ) (rest : List ℕ) {a d : List ℕ} → Exported (Some (dispatch h)) (w ∷ []) a 0 (v ∷ []) d → h < hart_count → hart_at (table_of w).core h ≡ None → (table_of w).core.queue ≡ s ∷ rest
      → (d ≡ 2 ∷ s ∷ 0 ∷ []) × (hart_at (table_of v).core h ≡ Some (slot s)) × ((table_of v).core.queue ≡ rest)
  unfolding DispatchRule coded values_of word_of
  linked-dispatch h s rest p l i q =
      let e : table_of w ≡ reached before = cc in
      let g = dispatch-granted before h s rest l (rw e at i) (rw e at q) in
      let f : table_of v ≡ (step (reached before) (dispatch h)).table = let x = exported-reads before r p in cc (reached-more before (dispatch h)) in
      (exported-answers before r p ∙ ap coded g.answer, rw f g.hart, rw f g.queue)
