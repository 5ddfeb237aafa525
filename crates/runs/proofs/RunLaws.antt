-- A run, call by call.
use Rattle.std.specs.Prelude.{Some, None, Option}
use Prim.Native.Nat.{ℕ, zero, suc, ◌+◌, ◌*◌, ◌-◌, ◌/◌, ◌≤◌, ◌<◌}
use native.Mathlib.Omega.{arith}
use mathlib.Core.Path.{◌≡◌, refl, sym, ap, ◌∙◌, subst}
use mathlib.Core.Bool.{Bool, true, false, cond}
use mathlib.Core.List.{List, [], ◌∷◌, ◌++◌}
use lib.ListN.{length, get_or, take, drop, length-append, length-drop}
use lib.Seq.{drop-drop}
use lib.Dec.{ltb}
use borrow.Author.Tests.{ltb-false}
use Rattle.rules.specs.Types.{Answer}
use Rattle.rules.specs.Model.{Table}
use Rattle.rules.specs.Runs as rules
use Rattle.promises.specs.Order.Sound.{Sound}
use Rattle.promises.specs.Did.{Did}
use Rattle.buffers.specs.Text.{put, Wrote}
use Rattle.buffers.proofs.TextLaws.{wrote_none, wrote-more, part-from}
use Rattle.steps.specs.declared.Call.{Call}
use Rattle.steps.specs.ByValue.{call_of}
use Rattle.answers.specs.Words.{answer_words, coded, codes}
use Rattle.answers.proofs.AnswerLaws.{coded-length, codes-more}
use Rattle.codes.specs.Codes.{call_words, call_numbered, call_in}
use Rattle.runs.specs.Ran.{followed, calls_in, Ran}

-- ---- one call more
run-table : (t : Table) (cs : List rules.Call) (c : rules.Call) → (rules.run t (cs ++ (c ∷ []))).table ≡ (rules.step (rules.run t cs).table c).table
unfolding rules.run rules.run_by
run-table t [] c = refl
run-table t (x ∷ cs) c = run-table (rules.step t x).table cs c

run-answers : (t : Table) (cs : List rules.Call) (c : rules.Call)
    → (rules.run t (cs ++ (c ∷ []))).answers ≡ (rules.run t cs).answers ++ ((rules.step (rules.run t cs).table c).answer ∷ [])
unfolding rules.run rules.run_by
run-answers t [] c = refl
run-answers t (x ∷ cs) c = ap (λ (l : List Answer). (rules.step t x).answer ∷ l) (run-answers (rules.step t x).table cs c)

run_length : (t : Table) (cs : List rules.Call) → length (rules.run t cs).answers ≡ length cs
unfolding rules.run rules.run_by
run_length t [] = refl
run_length t (x ∷ cs) = ap suc (run_length (rules.step t x).table cs)

-- ---- the calls that the words hold
module _ (text : List ℕ) where
  rest : (n : ℕ) (l : List ℕ) → drop (n * call_words) (drop call_words l) ≡ drop (suc n * call_words) l
  rest n l = let e : call_words + n * call_words ≡ suc n * call_words = omega arith in drop-drop (n * call_words) call_words l ∙ ap (λ (k : ℕ). drop k l) e

  -- n of them, and then c
  one_more : (n : ℕ) (l : List ℕ) (c : Call) → n ≡ length (calls_in n text l) → call_in (drop (n * call_words) l) ≡ Some c
      → calls_in (suc n) text l ≡ calls_in n text l ++ (call_of text c ∷ [])
  unfolding calls_in
  one_more zero l c h e = ap (λ (o : Option Call). followed text o []) e
  one_more (suc n) l c h e = go (call_in l) h (λ g. one_more n (drop call_words l) c g (ap call_in (rest n l) ∙ e))
    where
      go : (o : Option Call) → suc n ≡ length (followed text o (calls_in n text (drop call_words l)))
          → (n ≡ length (calls_in n text (drop call_words l)) → calls_in (suc n) text (drop call_words l) ≡ calls_in n text (drop call_words l) ++ (call_of text c ∷ []))
          → followed text o (calls_in (suc n) text (drop call_words l)) ≡ followed text o (calls_in n text (drop call_words l)) ++ (call_of text c ∷ [])
      go None h more = absurd (omega arith)
      go (Some x) h more = ap (λ (k : List rules.Call). call_of text x ∷ k) (more (omega arith))

  -- n of them, and then none
  no_more : (n m : ℕ) (l : List ℕ) → n ≤ m → n ≡ length (calls_in n text l) → call_in (drop (n * call_words) l) ≡ None → calls_in m text l ≡ calls_in n text l
  unfolding calls_in
  no_more zero zero l b h e = refl
  no_more zero (suc m) l b h e = ap (λ (o : Option Call). followed text o (calls_in m text (drop call_words l))) e
  no_more (suc n) zero l b h e = absurd (omega arith)
  no_more (suc n) (suc m) l b h e = go (call_in l) h (λ g. no_more n m (drop call_words l) (omega arith) g (ap call_in (rest n l) ∙ e))
    where
      go : (o : Option Call) → suc n ≡ length (followed text o (calls_in n text (drop call_words l)))
          → (n ≡ length (calls_in n text (drop call_words l)) → calls_in m text (drop call_words l) ≡ calls_in n text (drop call_words l))
          → followed text o (calls_in m text (drop call_words l)) ≡ followed text o (calls_in n text (drop call_words l))
      go None h same = absurd (omega arith)
      go (Some x) h same = ap (λ (k : List rules.Call). call_of text x ∷ k) (same (omega arith))

call_long : (l : List ℕ) (c : Call) → call_in l ≡ Some c → call_words ≤ length l
unfolding call_in
call_long l c e = go (ltb (length l) call_words) refl e
  where
    go : (b : Bool) → ltb (length l) call_words ≡ b → cond b None (call_numbered (get_or l 0 0) (λ i. get_or l i 0)) ≡ Some c → call_words ≤ length l
    go true f e = absurd (let z : ◌≡◌ {A = ℕ} 0 1 = cc in omega arith)
    go false f e = ltb-false (length l) call_words f

-- ---- n calls done of `most`
module _ (text l b₀ : List ℕ) (t₀ : Table) (most : ℕ) where
  pub record Midway (t : Table) (b : List ℕ) (n : ℕ) : Type 0 where
    pub left : n ≤ most
    pub count : n ≡ length (calls_in n text l)
    pub table : t ≡ (rules.run t₀ (calls_in n text l)).table
    pub answers : Wrote b₀ 0 (codes (rules.run t₀ (calls_in n text l)).answers) b (n * answer_words)
    pub sound : Sound t
    pub long : length b ≡ length b₀
    pub within : n * call_words ≤ length l

  pub begun : Sound t₀ → Midway t₀ b₀ 0
  unfolding calls_in codes rules.run rules.run_by
  begun w = record { left = omega arith; count = refl; table = refl; answers = wrote_none b₀ 0 (omega arith); sound = w; long = refl; within = omega arith }

  module _ {t : Table} {b : List ℕ} {n : ℕ} (m : Midway t b n) where
    abbrev said : List Answer
    said = (rules.run t₀ (calls_in n text l)).answers

    pub room : n < most → most * answer_words ≤ length b₀ → n * answer_words + answer_words ≤ length b
    room h k = omega (arith, m.long)

    module _ (c : Call) (e : call_in (drop (n * call_words) l) ≡ Some c) where
      call-in : n * call_words + call_words ≤ length l
      call-in = omega (arith, call_long (drop (n * call_words) l) c e, length-drop (n * call_words) l, m.within)

      grown : calls_in (suc n) text l ≡ calls_in n text l ++ (call_of text c ∷ [])
      grown = one_more text n l c m.count e

      told : {a : Answer} {u : Table} → Did (call_of text c) t a u → (rules.run t₀ (calls_in (suc n) text l)).answers ≡ said ++ (a ∷ [])
      told did = ap (λ (cs : List rules.Call). (rules.run t₀ cs).answers) grown ∙ run-answers t₀ (calls_in n text l) (call_of text c)
          ∙ ap (λ (x : Answer). said ++ (x ∷ [])) (ap (λ (x : Table). (rules.step x (call_of text c)).answer) (sym m.table) ∙ sym did.answer)

      pub next : {a : Answer} {u : Table} {d : List ℕ} → n < most → most * answer_words ≤ length b₀ → Did (call_of text c) t a u → d ≡ put b (n * answer_words) (coded a)
          → length d ≡ length b → Midway u d (n + 1)
      next {a} {u} {d} h k did f g = let z : n + 1 ≡ suc n = omega arith in rw z record {
        left = h;
        count = ap suc m.count ∙ sym (ap length grown ∙ length-append (calls_in n text l) (call_of text c ∷ []) ∙ omega arith);
        table = did.table ∙ ap (λ (x : Table). (rules.step x (call_of text c)).table) m.table ∙ sym (run-table t₀ (calls_in n text l) (call_of text c)) ∙ ap (λ (cs : List rules.Call). (rules.run t₀ cs).table) (sym grown);
        answers = subst (λ (k : List ℕ). Wrote b₀ 0 k d (suc n * answer_words)) (sym (ap codes (told did) ∙ codes-more said a)) (wrote-more m.answers (record { fits = omega (arith, room h k, coded-length a); buffer = f; place = omega (arith, coded-length a) }));
        sound = did.sound;
        long = g ∙ m.long;
        within = omega (arith, call-in);
      }

    -- why it ended there
    ended : {k : ℕ} → most ≡ k → calls_in most text l ≡ calls_in n text l → Ran (calls_in k text l) t₀ b₀ n t b
    ended f e = rw (← f, e) (record { count = m.count; table = m.table; answers = m.answers.buffer; sound = m.sound })

    pub none_left : {k : ℕ} → most ≡ k → call_in (drop (n * call_words) l) ≡ None → Ran (calls_in k text l) t₀ b₀ n t b
    none_left f e = ended f (no_more text n most l m.left m.count e)

    pub all_done : {k : ℕ} → most ≡ k → most ≤ n → Ran (calls_in k text l) t₀ b₀ most t b
    all_done {k} f h = let e : most ≡ n = omega (arith, m.left) in subst (λ (x : ℕ). Ran (calls_in k text l) t₀ b₀ x t b) (sym e) (ended f (ap (λ (j : ℕ). calls_in j text l) e))

-- ---- what the code saw
module _ (l : List ℕ) (at : ℕ) (r : Option Call) (f : r ≡ call_in (take (length l - at) (drop at l))) where
  seen : call_in (drop at l) ≡ r
  seen = sym (f ∙ ap call_in (part-from l at (length l) refl))

  pub first-none : r ≡ None → call_in (drop at l) ≡ None
  first-none e = seen ∙ e

  pub first-call : {c : Call} → r ≡ Some c → call_in (drop at l) ≡ Some c
  first-call e = seen ∙ e

pub most-fits : (b : List ℕ) {most : ℕ} → most ≤ length b / answer_words → most * answer_words ≤ length b
most-fits b h = omega arith
