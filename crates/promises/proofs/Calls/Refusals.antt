-- Each call on a sound table is refused as document 01's table and order have it.
use Rattle.std.specs.Prelude.{ℕ, ◌<◌, ◌≢◌, Bool, ◌&&◌, length, ℤ, pos, negsuc, Option, Some, None}
use Rattle.std.proofs.Common.{arith, ◌∙◌}
use Rattle.std.proofs.Math.Path.{◌≡◌, refl, sym, ap}
use Rattle.std.proofs.Math.Bool.{true, false, not, cond}
use mathlib.Core.List.{List, [], ◌∷◌}
use Rattle.std.proofs.Math.Dec.{eqb, leb, ltb, eqb-suc-zero}
use borrow.Author.Tests.{eqb-true, eq-eqb, ne_eqb, leb-true, leb-false, lt-ltb, le-ltb}
use Rattle.promises.specs.Types.{Pid, UNUSED, ZOMBIE, Process, Wish, ThreadAsk, Mapped, NoSuchHart, HartBusy, NoneSuch, StatusUnwritable, InitOutOfTurn, WrongWayOut, NotADevice, NameTooLong, NoMemory, BadAddress, Unmapped, SizeOutOfLimits, Slot}
use Rattle.rules.specs.Sizes.{hart_count, pid_top, size_top}
use Rattle.rules.specs.Answers.{number_of}
use Rattle.rules.specs.Model.{Table, at, hart_at, group_at, free, is, known}
use Rattle.rules.specs.Moves.{lowest}
use Rattle.rules.specs.Calls.{gives, moves, refuse, spent, made_in, booted_in, booted, started_at, started, spawned_in, spawned, system_returned_by, system_returned, forked_in, forked_by, forked, threaded_in, wrong_ask, unmapped, threaded_by, threaded, hand_next, dispatched, yielded, slept, woken, has_pid, killed, is_there, child_of, zombie_child_of, waited_for, waited, thread_of, thread_named, joined_to, joined_by, joined, thread_ended, reap_threads, exited_past, leader_exited, exited_by, exited, thread_exited_by, thread_exited, within, upward, grown_to, grown_by, grown}
use Rattle.rules.specs.Runs.{Call, boot, start, spawn, system_return, fork, thread, dispatch, yield, sleep, wakeup, kill, wait, join, thread_exit, exit, grow, step}
use Rattle.promises.specs.Laws.Bools.{and_no, and_yes, and_left, and_right, not-both, clash}
use Rattle.promises.specs.Laws.Scans.{lowest-passes, lowest-range, lowest-none}
use Rattle.promises.specs.Order.Sound.{Sound}
use Rattle.promises.specs.Order.States.{used-range, runs-used}
use Rattle.promises.specs.Order.Chains.{runs}
use Rattle.promises.specs.Calls.Shape.{refuse_if-any, found-any, on_hart-any, in_group-any, taking-any}
use Rattle.promises.proofs.Calls.Exits.{thread-used}
use Rattle.promises.specs.Calls.SomeSlot.{some-yes, some-no, scan-none, scan-some, scan-any}
use Rattle.promises.specs.Calls.RefusalTable.{refusal_of, outside, right_addresses, some_unmapped, childless, has_zombie_child, named_elsewhere, lines_of, order, due, first_of}
use Rattle.promises.specs.Calls.Refusals.{Right}

module _ (t : Table) (w : Sound t) where
  counter-top : leb pid_top t.books.pids ≡ true → eqb t.books.pids pid_top ≡ true
  counter-top e = eq-eqb _ pid_top (omega (arith, leb-true pid_top t.books.pids e, w.numbered.top))

  counter-low : t.books.pids < pid_top → eqb t.books.pids pid_top ≡ false
  counter-low l = ne_eqb _ pid_top (λ e. omega (arith, l, e))

  booted-when : Right t boot (booted t)
  unfolding Right booted booted_in made_in gives refuse number_of lines_of order due first_of
  booted-when =
      refuse_if-any (Right t boot) _ InitOutOfTurn t _ (λ a. rw a refl) λ a.
      taking-any (Right t boot) t _ (λ e. rw (a, counter-top e) refl) (λ l o. rw (a, counter-low l, scan-none t (is UNUSED) o) refl) λ s l o.
      rw (a, counter-low l, scan-some t (is UNUSED) s o) refl

  started-when : Right t start (started t)
  unfolding Right started started_at moves gives refuse number_of lines_of order due first_of
  started-when = go t.books.init refl
    where
      go : (p : Option Slot) → t.books.init ≡ p → Right t start (started_at t p)
      go None e = rw e refl
      go (Some s) e = refuse_if-any (Right t start) _ InitOutOfTurn t _ (λ a. rw (e, a) refl) λ a. rw (e, a) refl

  spawned-when : (name : List ℕ) (entry : ℕ) → Right t (spawn name entry) (spawned t name entry)
  unfolding Right spawned spawned_in made_in gives refuse number_of lines_of order due first_of
  spawned-when name entry =
      refuse_if-any (Right t (spawn name entry)) _ NameTooLong t _ (λ a. rw a refl) λ a.
      taking-any (Right t (spawn name entry)) t _ (λ e. rw (a, counter-top e) refl) (λ l o. rw (a, counter-low l, scan-none t (is UNUSED) o) refl) λ s l o.
      rw (a, counter-low l, scan-some t (is UNUSED) s o) refl

  system_returned-when : (h : ℕ) → Right t (system_return h) (system_returned t h)
  unfolding Right system_returned system_returned_by gives refuse number_of lines_of order due first_of
  system_returned-when h =
      on_hart-any (Right t (system_return h)) t h _ (λ a. rw a refl) (λ a e. rw (a, e) refl) λ s a e.
      refuse_if-any (Right t (system_return h)) _ WrongWayOut t _ (λ b. rw (a, e, b) refl) λ b. rw (a, e, b) refl

  forked-when : (h : ℕ) (memory : Bool) → Right t (fork h memory) (forked t h memory)
  unfolding Right forked forked_by forked_in made_in gives refuse number_of lines_of order due first_of
  forked-when h memory =
      on_hart-any (Right t (fork h memory)) t h _ (λ a. rw a refl) (λ a e. rw (a, e) refl) λ s a e.
      in_group-any (Right t (fork h memory)) t s _ (λ m. rw (a, e, m) refl) λ g m.
      taking-any (Right t (fork h memory)) t _ (λ p. rw (a, e, m, counter-top p) refl) (λ l o. rw (a, e, m, counter-low l, scan-none t (is UNUSED) o) refl) λ c l o.
      refuse_if-any (Right t (fork h memory)) _ NoMemory (spent t) _
      (λ b. rw (a, e, m, counter-low l, scan-some t (is UNUSED) c o, b) refl) λ b. rw (a, e, m, counter-low l, scan-some t (is UNUSED) c o, b) refl

  -- a thread's addresses and the host's answers, as the rule tests them
  not-leb : (m n : ℕ) → not (leb m n) ≡ ltb n m
  not-leb m n = go (leb m n) refl
    where
      go : (b : Bool) → leb m n ≡ b → not b ≡ ltb n m
      go true e = sym (le-ltb n m (leb-true m n e))
      go false e = sym (lt-ltb n m (leb-false m n e))

  addresses-wrong : (a : ThreadAsk) (size : ℕ) → not (right_addresses a size) ≡ wrong_ask a size
  unfolding right_addresses wrong_ask
  addresses-wrong a size = simp (not-both, not-leb)

  answers-no : (m : Mapped) → some_unmapped m ≡ unmapped m
  unfolding some_unmapped unmapped
  answers-no m = simp not-both

  threaded-when : (h : ℕ) (x : ThreadAsk) (p : Mapped) → Right t (thread h x p) (threaded t h x p)
  unfolding Right threaded threaded_by threaded_in made_in gives refuse number_of lines_of order due first_of
  threaded-when h x p =
      on_hart-any (Right t (thread h x p)) t h _ (λ a. rw a refl) (λ a e. rw (a, e) refl) λ s a e.
      in_group-any (Right t (thread h x p)) t s _ (λ m. rw (a, e, m) refl) λ g m. let asked = addresses-wrong x (group_at t.books g).size in
      refuse_if-any (Right t (thread h x p)) _ BadAddress t _ (λ b. rw (a, e, m, asked ∙ b) refl) λ b.
      refuse_if-any (Right t (thread h x p)) _ Unmapped t _ (λ d. rw (a, e, m, asked ∙ b, answers-no p ∙ d) refl) λ d. let right = asked ∙ b in let yes = answers-no p ∙ d in
      taking-any (Right t (thread h x p)) t _ (λ f. rw (a, e, m, right, yes, counter-top f) refl) (λ l o. rw (a, e, m, right, yes, counter-low l, scan-none t (is UNUSED) o) refl) λ c l o.
      rw (a, e, m, right, yes, counter-low l, scan-some t (is UNUSED) c o) refl

  dispatched-when : (h : ℕ) → Right t (dispatch h) (dispatched t h)
  unfolding Right dispatched hand_next moves gives refuse number_of lines_of order due first_of
  dispatched-when h =
      refuse_if-any (Right t (dispatch h)) _ NoSuchHart t _ (λ a. rw a refl) λ a.
      refuse_if-any (Right t (dispatch h)) _ HartBusy t _ (λ b. rw (a, b) refl) λ b.
      go a b t.core.queue refl
    where
      go : leb hart_count h ≡ false → known (hart_at t.core h) ≡ false → (q : List ℕ) → t.core.queue ≡ q → Right t (dispatch h) (hand_next t h q)
      go a b [] e = rw (a, b, e) refl
      go a b (s ∷ rest) e = rw (a, b, e, eqb-suc-zero (length rest)) refl

  yielded-when : (h : ℕ) → Right t (yield h) (yielded t h)
  unfolding Right yielded moves gives refuse number_of lines_of order due first_of
  yielded-when h = on_hart-any (Right t (yield h)) t h _ (λ a. rw a refl) (λ a e. rw (a, e) refl) λ s a e. rw (a, e) refl

  slept-when : (h ch : ℕ) → Right t (sleep h ch) (slept t h ch)
  unfolding Right slept moves gives refuse number_of lines_of order due first_of
  slept-when h ch =
      on_hart-any (Right t (sleep h ch)) t h _ (λ a. rw a refl) (λ a e. rw (a, e) refl) λ s a e.
      refuse_if-any (Right t (sleep h ch)) _ NotADevice t _ (λ b. rw (a, e, b) refl) λ b. rw (a, e, b) refl

  woken-when : (ch : ℕ) → Right t (wakeup ch) (woken t ch)
  unfolding Right woken moves gives refuse number_of lines_of order due first_of
  woken-when ch = refuse_if-any (Right t (wakeup ch)) _ NotADevice t _ (λ b. rw b refl) λ b. rw b refl

  killed-when : (p : Pid) → Right t (kill p) (killed t p)
  unfolding Right killed has_pid moves gives refuse number_of lines_of order due first_of
  killed-when p = found-any (Right t (kill p)) NoneSuch t _ _ (λ o. rw (scan-none t (has_pid p) o) refl) λ i o. rw (scan-some t (has_pid p) i o) refl

  -- ---- wait
  zombie-is-child : (s i : ℕ) → lowest (zombie_child_of s) t.core.slots ≡ Some i → childless t s ≡ false
  unfolding childless zombie_child_of child_of
  zombie-is-child s i o = ap not (some-yes t (λ _. child_of s) i (lowest-range (zombie_child_of s) t.core.slots free i o)
      (and_right (is ZOMBIE (at t.core i)) (child_of s (at t.core i)) (lowest-passes (zombie_child_of s) t.core.slots free i o)))

  childless-scan : (s : ℕ) → childless t s ≡ not (is_there (lowest (child_of s) t.core.slots))
  unfolding childless child_of
  childless-scan s = ap not (scan-any t (child_of s))

  waited-when : (h : ℕ) (x : Wish) → Right t (wait h x) (waited t h x)
  unfolding Right waited waited_for has_zombie_child zombie_child_of child_of moves gives refuse number_of lines_of order due first_of
  waited-when h x = on_hart-any (Right t (wait h x)) t h _ (λ a. rw a refl) (λ a e. rw (a, e) refl) λ s a e. go s a e (lowest (zombie_child_of s) t.core.slots) refl
    where
      go : (s : ℕ) → leb hart_count h ≡ false → runs t h s → (o : Option ℕ) → lowest (zombie_child_of s) t.core.slots ≡ o → Right t (wait h x) (waited_for t h x s o)
      go s a e (Some i) o = let z = zombie-is-child s i o in let y = scan-some t (zombie_child_of s) i o in
          refuse_if-any (Right t (wait h x)) _ StatusUnwritable t _ (λ b. rw (a, e, z, y, and_no _ refl, b) refl) λ b. rw (a, e, z, y, and_no _ refl, b) refl
      go s a e None o = let z = childless-scan s in let y = scan-none t (zombie_child_of s) o in let k = and_yes (at t.core s).meta.killed {b = true} refl in
          refuse_if-any (Right t (wait h x)) _ NoneSuch t _ (λ b. rw (a, e, y, z, k, b) refl) λ b. rw (a, e, y, z, k, b) refl

  -- ---- join: a pid is one slot's, so no thread but the named one passes, and the caller's own pid is no other slot's
  named-pid : (p : Pid) (m : Option ℕ) (i : ℕ) → thread_named p m (at t.core i) ≡ true → (at t.core i).meta.pid.0 ≡ p.0
  unfolding thread_named
  named-pid p m i e = eqb-true _ p.0 (and_right (thread_of m (at t.core i)) _ e)

  named-used : (p : Pid) (m : Option ℕ) (i : ℕ) → thread_named p m (at t.core i) ≡ true → is UNUSED (at t.core i) ≡ false
  unfolding thread_named thread_of
  named-used p m i e = thread-used t w i (and_left _ _ (and_left _ _ e))

  -- where one slot has the pid, another passes nowhere
  elsewhere-no : (s : ℕ) (p : Pid) (test : Process → Bool)
      → ((i : ℕ) → i ≢ s → thread_named p (at t.core s).kin.group (at t.core i) ≡ true → test (at t.core i) ≡ true → ⊥) → named_elsewhere t s p test ≡ false
  unfolding named_elsewhere thread_named thread_of
  elsewhere-no s p test never = some-no t _ λ i r. go i (eqb i s) refl (thread_named p (at t.core s).kin.group (at t.core i)) refl (test (at t.core i)) refl
    where
      go : (i : ℕ) (a : Bool) → eqb i s ≡ a → (b : Bool) → thread_named p (at t.core s).kin.group (at t.core i) ≡ b → (c : Bool) → test (at t.core i) ≡ c → not a && (b && c) ≡ false
      go i true _ b _ c _ = refl
      go i false x false y c z = refl
      go i false x true y false z = refl
      go i false x true y true z = absurd (never i (λ e. clash (eq-eqb i s e) x) y z)

  elsewhere-yes : (s i : ℕ) (p : Pid) (test : Process → Bool) → i ≢ s → i < length t.core.slots → thread_named p (at t.core s).kin.group (at t.core i) ≡ true → test (at t.core i) ≡ true
      → named_elsewhere t s p test ≡ true
  unfolding named_elsewhere thread_named thread_of
  elsewhere-yes s i p test n r e f = some-yes t _ i r (rw (ne_eqb i s n, e, f) refl)

  joined-when : (h : ℕ) (p : Pid) (x : Wish) → Right t (join h p x) (joined t h p x)
  unfolding Right joined joined_by joined_to moves gives refuse number_of lines_of order due first_of
  joined-when h p x =
      on_hart-any (Right t (join h p x)) t h _ (λ a. rw a refl) (λ a e. rw (a, e) refl) λ s a e.
      in_group-any (Right t (join h p x)) t s _ (λ m. rw (a, e, m) refl) λ g m.
      refuse_if-any (Right t (join h p x)) _ NoneSuch t _ (λ own. rw (a, e, elsewhere-no s p (λ _. true) (own_alone s e own), m) refl) λ own.
      found-any (Right t (join h p x)) NoneSuch t _ _ (λ o. rw (a, e, elsewhere-no s p (λ _. true) (found-nobody s g m o), m) refl) λ i o.
      go s a e g m own i (lowest-range (thread_named p (Some g)) t.core.slots free i o) (rw m (lowest-passes (thread_named p (Some g)) t.core.slots free i o)) (is ZOMBIE (at t.core i)) refl
    where
      own_alone : (s : ℕ) → runs t h s → eqb (at t.core s).meta.pid.0 p.0 ≡ true → (i : ℕ) → i ≢ s → thread_named p (at t.core s).kin.group (at t.core i) ≡ true → true ≡ true → ⊥
      own_alone s e own i n f _ =
          n (w.numbered.once i s (named-used p _ i f) (runs-used h s t.core w.queued e) (named-pid p _ i f ∙ sym (eqb-true _ p.0 own)))

      found-nobody : (s g : ℕ) → (at t.core s).kin.group ≡ Some g → lowest (thread_named p (Some g)) t.core.slots ≡ None
          → (i : ℕ) → i ≢ s → thread_named p (at t.core s).kin.group (at t.core i) ≡ true → true ≡ true → ⊥
      found-nobody s g m o i n f _ = clash f (rw m (lowest-none (thread_named p (Some g)) t.core.slots free o i (used-range t.core.slots i (named-used p _ i f))))

      apart : (s i : ℕ) → eqb (at t.core s).meta.pid.0 p.0 ≡ false → thread_named p (at t.core s).kin.group (at t.core i) ≡ true → i ≢ s
      apart s i own f same = clash (eq-eqb _ p.0 (rw same at (named-pid p _ i f))) own

      other-dead : (s i : ℕ) → thread_named p (at t.core s).kin.group (at t.core i) ≡ true → is ZOMBIE (at t.core i) ≡ false
          → (j : ℕ) → j ≢ s → thread_named p (at t.core s).kin.group (at t.core j) ≡ true → is ZOMBIE (at t.core j) ≡ true → ⊥
      other-dead s i f z j n k y =
          let same : j ≡ i = w.numbered.once j i (named-used p _ j k) (named-used p _ i f) (named-pid p _ j k ∙ sym (named-pid p _ i f)) in
          clash y (rw same z)

      go : (s : ℕ) → leb hart_count h ≡ false → runs t h s → (g : ℕ) → (at t.core s).kin.group ≡ Some g → eqb (at t.core s).meta.pid.0 p.0 ≡ false → (i : ℕ) → i < length t.core.slots
          → thread_named p (at t.core s).kin.group (at t.core i) ≡ true → (b : Bool) → is ZOMBIE (at t.core i) ≡ b → Right t (join h p x) (joined_to t h x s i)
      go s a e g m own i r f true z = let there = elsewhere-yes s i p (λ _. true) (apart s i own f) r f refl in let dead = elsewhere-yes s i p (is ZOMBIE) (apart s i own f) r f z in
          rw z (refuse_if-any (Right t (join h p x)) _ StatusUnwritable t _ (λ b. rw (a, e, there, dead, m, b) refl) λ b. rw (a, e, there, dead, m, b) refl)
      go s a e g m own i r f false z = let there = elsewhere-yes s i p (λ _. true) (apart s i own f) r f refl in let live = elsewhere-no s p (is ZOMBIE) (other-dead s i f z) in
          rw (z, a, e, there, live, m) refl

  -- ---- the ways out
  leader_exited-answers : (h x s : ℕ) → refusal_of (leader_exited t h x s).answer ≡ None
  unfolding leader_exited exited_past moves gives
  leader_exited-answers h x s = go (reap_threads (at t.core s).kin.group t) (lowest (thread_of (at t.core s).kin.group) (reap_threads (at t.core s).kin.group t).core.slots)
    where
      go : (u : Table) (o : Option ℕ) → refusal_of (exited_past u h x s o).answer ≡ None
      go u None = refl
      go u (Some i) = refl

  exited-when : (h x : ℕ) → Right t (exit h x) (exited t h x)
  unfolding Right exited exited_by refuse gives number_of lines_of order due first_of
  exited-when h x =
      on_hart-any (Right t (exit h x)) t h _ (λ a. rw a refl) (λ a e. rw (a, e) refl) λ s a e.
      refuse_if-any (Right t (exit h x)) _ WrongWayOut t _ (λ b. rw (a, e, b) refl) λ b. rw (a, e, b) (leader_exited-answers h x s)

  thread_exited-when : (h x : ℕ) → Right t (thread_exit h x) (thread_exited t h x)
  unfolding Right thread_exited thread_exited_by thread_ended moves refuse gives number_of lines_of order due first_of
  thread_exited-when h x =
      on_hart-any (Right t (thread_exit h x)) t h _ (λ a. rw a refl) (λ a e. rw (a, e) refl) λ s a e.
      refuse_if-any (Right t (thread_exit h x)) _ WrongWayOut t _ (λ b. rw (a, e, b) refl) λ b. rw (a, e, b) (go s (at t.core s).kin.thread)
    where
      go : (s : ℕ) (b : Bool) → refusal_of (cond b (thread_ended t h x s) (leader_exited t h x s)).answer ≡ None
      go s true = refl
      go s false = leader_exited-answers h x s

  -- ---- grow
  within_none : (d : ℤ) → within d ≡ None → outside d ≡ true
  unfolding within
  within_none (pos n) o = go (leb n size_top) refl o
    where
      go : (b : Bool) → leb n size_top ≡ b → cond b (Some n) None ≡ None → ltb size_top n ≡ true
      go true e f = let z : ◌≡◌ {A = ℕ} 0 1 = cc in absurd (omega arith)
      go false e f = lt-ltb size_top n (leb-false n size_top e)
  within_none (negsuc n) o = refl

  within-some : (d : ℤ) (n : ℕ) → within d ≡ Some n → outside d ≡ false
  unfolding within
  within-some (pos k) n o = go (leb k size_top) refl o
    where
      go : (b : Bool) → leb k size_top ≡ b → cond b (Some k) None ≡ Some n → ltb size_top k ≡ false
      go true e f = le-ltb size_top k (leb-true k size_top e)
      go false e f = let z : ◌≡◌ {A = ℕ} 0 1 = cc in absurd (omega arith)
  within-some (negsuc k) n o = let z : ◌≡◌ {A = ℕ} 0 1 = cc in absurd (omega arith)

  grown-when : (h : ℕ) (d : ℤ) (memory : Bool) → Right t (grow h d memory) (grown t h d memory)
  unfolding Right grown grown_by grown_to upward gives refuse number_of lines_of order due first_of
  grown-when h d memory =
      on_hart-any (Right t (grow h d memory)) t h _ (λ a. rw a refl) (λ a e. rw (a, e) refl) λ s a e.
      in_group-any (Right t (grow h d memory)) t s _ (λ m. rw (a, e, m) refl) λ g m.
      found-any (Right t (grow h d memory)) SizeOutOfLimits t _ _ (λ o. rw (a, e, m, within_none _ o) refl) λ n o.
      refuse_if-any (Right t (grow h d memory)) _ NoMemory t _ (λ b. rw (a, e, m, within-some _ n o, b) refl) λ b. rw (a, e, m, within-some _ n o, b) refl

  pub step-when : (c : Call) → Right t c (step t c)
  unfolding step
  step-when boot = booted-when
  step-when start = started-when
  step-when (spawn name entry) = spawned-when name entry
  step-when (system_return h) = system_returned-when h
  step-when (fork h memory) = forked-when h memory
  step-when (thread h x p) = threaded-when h x p
  step-when (dispatch h) = dispatched-when h
  step-when (yield h) = yielded-when h
  step-when (sleep h ch) = slept-when h ch
  step-when (wakeup ch) = woken-when ch
  step-when (kill p) = killed-when p
  step-when (wait h x) = waited-when h x
  step-when (join h p x) = joined-when h p x
  step-when (thread_exit h x) = thread_exited-when h x
  step-when (exit h x) = exited-when h x
  step-when (grow h d memory) = grown-when h d memory
