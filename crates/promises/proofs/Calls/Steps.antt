-- Every call on a sound table: refused as document 01's table has it, a dispatch, or a chain of allowed moves.
use Rattle.std.specs.Prelude.{ℕ, ◌<◌, ◌≡◌, ◌≢◌, Bool, cond, ◌||◌, List, [], ◌∷◌, length, get_or, ℤ, leb, Option, Some, None, Ok}
use Rattle.std.proofs.Math.Path.{refl}
use Rattle.std.proofs.Common.{ap, ◌∙◌, inl, leb-true, leb-false, ltb-false}
use Rattle.std.proofs.Math.Bool.{true, false}
use Rattle.std.proofs.Math.ListN.{get_or-eq_default}
use Rattle.std.proofs.Math.Dec.{eqb}
use Rattle.std.proofs.lemmas.Bool.{not-true, not-false}
use Rattle.promises.specs.Types.{Pid, RUNNING, ZOMBIE, Process, Wish, ThreadAsk, Mapped, NoSuchHart, HartIdle, HartBusy, QueueEmpty, TableFull, PidsSpent, NoGroup, BadAddress, Unmapped, NoneSuch, StatusUnwritable, InitOutOfTurn, WrongWayOut, NotADevice, NameTooLong, SizeOutOfLimits, NoMemory, Done, Blocked, Slot}
use Rattle.rules.specs.Sizes.{hart_count, init_size, own_channel, first_device}
use Rattle.rules.specs.Answers.{number_of}
use Rattle.rules.specs.Model.{Table, at, hart_at, free, is, is_slot, known}
use Rattle.rules.specs.Moves.{lowest, open_group, join_group, resize, set_init, spend, reap}
use Rattle.rules.specs.Calls.{moves, spent, publish_new, made_in, init_name, init_in, booted_in, booted, started_at, started, system_in, spawned_in, spawned, system_returned_by, system_returned, child_in, forked_in, forked_by, forked, leader_of, thread_in, threaded_in, threaded_by, threaded, hand_next, dispatched, yielded, slept, woken, has_pid, killed, zombie_child_of, waited_for, waited, thread_of, thread_named, joined_to, joined_by, joined, thread_ended, reap_threads, exited_past, leader_exited, exited_by, exited, thread_exited_by, thread_exited, grown_to, grown_by, grown}
use Rattle.rules.specs.Runs.{Call, boot, start, spawn, system_return, fork, thread, dispatch, yield, sleep, wakeup, kill, wait, join, thread_exit, exit, grow, step}
use Rattle.promises.specs.Laws.Bools.{and_left, and_right, or_left, or_right, clash}
use Rattle.promises.specs.Laws.Numbers.{init-size}
use Rattle.promises.specs.Laws.Scans.{lowest-passes, lowest-none}
use Rattle.promises.specs.Order.Sound.{Sound}
use Rattle.promises.specs.Order.States.{other, runs-running, runs-range}
use Rattle.promises.specs.Order.Chains.{on_core, runs, device, waiting, joining, of_init, of_system, of_child, of_thread, publishing, yielding, sleeping, spending, filling, freeing, returning, resizing, Chain, and_then, one, chained}
use Rattle.promises.specs.Order.Books.{leave-pids, reap-pids}
use Rattle.promises.proofs.Order.Kept.{chain-sound}
use Rattle.promises.specs.Calls.Shape.{refuse_if-any, found-any, on_hart-any, in_group-any, taking-any}
use Rattle.promises.specs.Calls.Walks.{Spared, Settled}
use Rattle.promises.proofs.Calls.Walks.{wake-chain, slay-chain, reap_threads-chain, reap_threads-spared, reap_threads-settled}
use Rattle.promises.proofs.Calls.Exits.{thread-used, blocked-chain, leader-chain, thread-chain}
use Rattle.promises.specs.Calls.RefusalTable.{forks, spends_pid}
use Rattle.promises.specs.Calls.Ended.{Ended, refused, spent_on, handed, granted, within-top, padded-long, vacant, filled, after, names-own, leader-known, caller-elder, leader-elder}

-- ---- boot, start, spawn, system return
module _ (t : Table) (w : Sound t) where
  booted-ends : Ended boot t (booted t)
  unfolding booted booted_in made_in init_in init_name spent spend spends_pid forks number_of
  booted-ends =
      refuse_if-any (Ended boot t) _ InitOutOfTurn t _ (λ _. refused InitOutOfTurn refl) λ e.
      taking-any (Ended boot t) t _ (λ _. refused PidsSpent refl) (λ l _. spent_on TableFull refl l) λ s l o.
      granted _ _ (refl, unfold set_init open_group in refl) (and_then (one (spending l)) (filling s _ _ _ (vacant t w s o) (of_init e init_size init-size) (padded-long _)))

  started-ends : Ended start t (started t)
  unfolding started started_at moves on_core spends_pid forks number_of
  started-ends = go t.books.init
    where
      go : (p : Option Slot) → Ended start t (started_at t p)
      go None = refused InitOutOfTurn refl
      go (Some s) = refuse_if-any (Ended start t) _ InitOutOfTurn t _ (λ _. refused InitOutOfTurn refl) λ e.
          granted (Ok Done) _ refl (one (publishing s.0 (inl (not-false _ e))))

  spawned-ends : (name : List ℕ) (entry : ℕ) → Ended (spawn name entry) t (spawned t name entry)
  unfolding spawned spawned_in made_in system_in publish_new on_core spent spend spends_pid forks number_of
  spawned-ends name entry =
      refuse_if-any (Ended (spawn name entry) t) _ NameTooLong t _ (λ _. refused NameTooLong refl) λ _.
      taking-any (Ended (spawn name entry) t) t _ (λ _. refused PidsSpent refl) (λ l _. spent_on TableFull refl l) λ s l o.
      granted _ _ (refl, refl)
      (and_then (and_then (one (spending l)) (filling s _ _ _ (vacant t w s o) of_system (padded-long name))) (publishing s (inl (filled s _ _ _ t.core (vacant t w s o).range))))

  system_returned-ends : (h : ℕ) → Ended (system_return h) t (system_returned t h)
  unfolding system_returned system_returned_by on_core reap spends_pid forks number_of
  system_returned-ends h =
      on_hart-any (Ended (system_return h) t) t h _ (λ _. refused NoSuchHart refl) (λ _ _. refused HartIdle refl) λ s _ e.
      refuse_if-any (Ended (system_return h) t) _ WrongWayOut t _ (λ _. refused WrongWayOut refl) λ y.
      granted (Ok Done) _ (leave-pids _ _) (one (returning h s e (not-false _ y)))

  -- ---- fork, thread creation
  forked-ends : (h : ℕ) (memory : Bool) → Ended (fork h memory) t (forked t h memory)
  unfolding forked forked_by forked_in made_in child_in publish_new on_core spent spend spends_pid forks number_of
  forked-ends h memory =
      on_hart-any (Ended (fork h memory) t) t h _ (λ _. refused NoSuchHart refl) (λ _ _. refused HartIdle refl) λ s _ e.
      in_group-any (Ended (fork h memory) t) t s _ (λ _. refused NoGroup refl) λ g m.
      taking-any (Ended (fork h memory) t) t _ (λ _. refused PidsSpent refl) (λ l _. spent_on TableFull refl l) λ c l o.
      refuse_if-any (Ended (fork h memory) t) _ NoMemory (spent t) _ (λ _. spent_on NoMemory refl l) λ _.
      granted _ _ (refl, unfold open_group in refl)
      (and_then (and_then (one (spending l)) (filling c _ _ _ (vacant t w c o) (of_child (after t w h s e g m) s (caller-elder t w h s e g m) _ (w.counted.top g)) (w.tidy s).name))
      (publishing c (inl (filled c _ _ _ t.core (vacant t w c o).range))))

  threaded-ends : (h : ℕ) (a : ThreadAsk) (p : Mapped) → Ended (thread h a p) t (threaded t h a p)
  unfolding threaded threaded_by threaded_in made_in thread_in publish_new on_core spent spend spends_pid forks number_of
  threaded-ends h a p =
      on_hart-any (Ended (thread h a p) t) t h _ (λ _. refused NoSuchHart refl) (λ _ _. refused HartIdle refl) λ s _ e.
      in_group-any (Ended (thread h a p) t) t s _ (λ _. refused NoGroup refl) λ g m.
      refuse_if-any (Ended (thread h a p) t) _ BadAddress t _ (λ _. refused BadAddress refl) λ _.
      refuse_if-any (Ended (thread h a p) t) _ Unmapped t _ (λ _. refused Unmapped refl) λ _.
      taking-any (Ended (thread h a p) t) t _ (λ _. refused PidsSpent refl) (λ l _. spent_on TableFull refl l) λ c l o.
      granted _ _ (refl, unfold join_group in refl)
      (and_then (and_then (one (spending l)) (filling c _ _ _ (vacant t w c o)
      (of_thread (after t w h s e g m) g (leader_of (at t.core s) s) (leader-known t w h s e g m) (leader-elder t w h s e g m) s (runs-range h s t.core w.queued e) (names-own t w h s e g m))
      (w.tidy s).name))
      (publishing c (inl (filled c _ _ _ t.core (vacant t w c o).range))))

  -- ---- dispatch, yield, sleep, wake, kill
  dispatched-ends : (h : ℕ) → Ended (dispatch h) t (dispatched t h)
  unfolding dispatched hand_next spends_pid forks number_of
  dispatched-ends h =
      refuse_if-any (Ended (dispatch h) t) _ NoSuchHart t _ (λ _. refused NoSuchHart refl) λ a.
      refuse_if-any (Ended (dispatch h) t) _ HartBusy t _ (λ _. refused HartBusy refl) λ b.
      go t.core.queue refl (leb-false hart_count h a) (idle-hart (hart_at t.core h) b)
    where
      idle-hart : (p : Option Slot) → known p ≡ false → p ≡ None
      idle-hart None e = refl
      idle-hart (Some s) e = absurd (clash {b = true} refl e)

      go : (q : List ℕ) → t.core.queue ≡ q → h < hart_count → hart_at t.core h ≡ None → Ended (dispatch h) t (hand_next t h q)
      go [] e r i = refused QueueEmpty refl
      go (s ∷ rest) e r i = handed h s rest refl e r i

  yielded-ends : (h : ℕ) → Ended (yield h) t (yielded t h)
  unfolding yielded moves on_core spends_pid forks number_of
  yielded-ends h =
      on_hart-any (Ended (yield h) t) t h _ (λ _. refused NoSuchHart refl) (λ _ _. refused HartIdle refl) λ s _ e.
      granted (Ok Done) _ refl (one (yielding h s e))

  slept-ends : (h ch : ℕ) → Ended (sleep h ch) t (slept t h ch)
  unfolding slept moves on_core spends_pid forks number_of
  slept-ends h ch =
      on_hart-any (Ended (sleep h ch) t) t h _ (λ _. refused NoSuchHart refl) (λ _ _. refused HartIdle refl) λ s _ e.
      refuse_if-any (Ended (sleep h ch) t) _ NotADevice t _ (λ _. refused NotADevice refl) λ d.
      granted (Ok Done) _ refl (one (sleeping h s ch e (device ch (ltb-false ch first_device d))))

  woken-ends : (ch : ℕ) → Ended (wakeup ch) t (woken t ch)
  unfolding woken moves on_core spends_pid forks number_of
  woken-ends ch =
      refuse_if-any (Ended (wakeup ch) t) _ NotADevice t _ (λ _. refused NotADevice refl) λ _.
      granted (Ok Done) _ refl (wake-chain t ch w)

  killed-ends : (p : Pid) → Ended (kill p) t (killed t p)
  unfolding killed has_pid moves on_core spends_pid forks number_of
  killed-ends p =
      found-any (Ended (kill p) t) NoneSuch t _ _ (λ _. refused NoneSuch refl) λ i o.
      granted (Ok Done) _ refl (slay-chain t i (not-true _ (and_left _ _ (lowest-passes (has_pid p) t.core.slots free i o))))

  -- ---- wait, join
  -- a test that no free slot passes, and that no slot is found to pass, is passed nowhere
  nowhere : (test : Process → Bool) → test free ≡ false → lowest test t.core.slots ≡ None → (j : ℕ) → test (at t.core j) ≡ false
  nowhere test f o j = go (leb (length t.core.slots) j) refl
    where
      go : (b : Bool) → leb (length t.core.slots) j ≡ b → test (at t.core j) ≡ false
      go true e = ap test (get_or-eq_default t.core.slots free (leb-true _ j e)) ∙ f
      go false e = lowest-none test t.core.slots free o j (leb-false _ j e)

  free-no-zombie : (s : ℕ) → zombie_child_of s free ≡ false
  unfolding zombie_child_of free
  free-no-zombie s = refl

  waited-ends : (h : ℕ) (x : Wish) → Ended (wait h x) t (waited t h x)
  unfolding waited waited_for zombie_child_of moves on_core spends_pid forks number_of
  waited-ends h x =
      on_hart-any (Ended (wait h x) t) t h _ (λ _. refused NoSuchHart refl) (λ _ _. refused HartIdle refl) λ s _ e.
      go s e (lowest (zombie_child_of s) t.core.slots) refl
    where
      go : (s : ℕ) → runs t h s → (o : Option ℕ) → lowest (zombie_child_of s) t.core.slots ≡ o → Ended (wait h x) t (waited_for t h x s o)
      go s e (Some i) o = refuse_if-any (Ended (wait h x) t) _ StatusUnwritable t _ (λ _. refused StatusUnwritable refl) λ _.
          granted _ _ (reap-pids i t) (one (freeing i (and_left _ _ (lowest-passes (zombie_child_of s) t.core.slots free i o))))
      go s e None o = refuse_if-any (Ended (wait h x) t) _ NoneSuch t _ (λ _. refused NoneSuch refl) λ _.
          granted (Ok Blocked) _ refl (one (sleeping h s (own_channel s) e (waiting (nowhere (zombie_child_of s) (free-no-zombie s) o))))

  joined-ends : (h : ℕ) (p : Pid) (x : Wish) → Ended (join h p x) t (joined t h p x)
  unfolding joined joined_by joined_to thread_named thread_of moves on_core spends_pid forks number_of
  joined-ends h p x =
      on_hart-any (Ended (join h p x) t) t h _ (λ _. refused NoSuchHart refl) (λ _ _. refused HartIdle refl) λ s _ e.
      in_group-any (Ended (join h p x) t) t s _ (λ _. refused NoGroup refl) λ g m.
      refuse_if-any (Ended (join h p x) t) _ NoneSuch t _ (λ _. refused NoneSuch refl) λ own.
      found-any (Ended (join h p x) t) NoneSuch t _ _ (λ _. refused NoneSuch refl) λ i o.
      go s e g m own i (lowest-passes (thread_named p (Some g)) t.core.slots free i o) (is ZOMBIE (at t.core i)) refl
    where
      go : (s : ℕ) → runs t h s → (g : ℕ) → (at t.core s).kin.group ≡ Some g → eqb (at t.core s).meta.pid.0 p.0 ≡ false
          → (i : ℕ) → thread_named p (Some g) (at t.core i) ≡ true → (b : Bool) → is ZOMBIE (at t.core i) ≡ b → Ended (join h p x) t (joined_to t h x s i)
      go s e g m own i n true z = rw z (refuse_if-any (Ended (join h p x) t) _ StatusUnwritable t _ (λ _. refused StatusUnwritable refl) λ _.
          granted _ _ (reap-pids i t) (one (freeing i z)))
      go s e g m own i n false z = rw z (granted (Ok Blocked) _ refl (one (sleeping h s (own_channel i) e (joining i apart (record {
        used = thread-used t w i (and_left _ _ (and_left _ _ n));
        live = z;
        kin = rw m (and_left _ _ n);
      })))))
        where
          apart : s ≢ i
          apart f = clash (rw (← f) at (and_right (thread_of (Some g) (at t.core i)) (eqb (at t.core i).meta.pid.0 p.0) n)) own

  -- ---- the ways out
  leader_exited-ends : (c : Call) (h x s : ℕ) → runs t h s → (at t.core s).kin.thread ≡ false → (at t.core s).kin.system ≡ false → is_slot s t.books.init ≡ false → Ended c t (leader_exited t h x s)
  unfolding leader_exited exited_past moves on_core
  leader_exited-ends c h x s e y v n = go (lowest (thread_of m) u.core.slots) refl
    where
      m : Option ℕ
      m = (at t.core s).kin.group

      u : Table
      u = reap_threads m t

      reaping : Chain t u
      reaping = reap_threads-chain m t w

      sound : Sound u
      sound = chain-sound w reaping

      spared : Spared s t u
      spared = reap_threads-spared m s t (other RUNNING ZOMBIE (at t.core s) (runs-running h s t.core w.queued e))

      there : runs u h s
      there = ap (λ (l : List (Option Slot)). get_or l h None) spared.harts ∙ e

      go : (o : Option ℕ) → lowest (thread_of m) u.core.slots ≡ o → Ended c t (exited_past u h x s o)
      go (Some i) o =
          let live : is ZOMBIE (at u.core i) ≡ false = unfold Settled in reap_threads-settled m t w.queued.tall i o in
          granted (Ok Blocked) _ spared.pids
          (chained reaping (blocked-chain u sound h s there i (rw spared.slot y) (rw spared.slot (lowest-passes (thread_of m) u.core.slots free i o)) live))
      go None o = granted (Ok Done) _ spared.pids (chained reaping (leader-chain u sound h s there x (rw spared.slot y) (rw spared.slot v) (rw spared.init n)))

  exited-ends : (h x : ℕ) → Ended (exit h x) t (exited t h x)
  unfolding exited exited_by spends_pid forks number_of
  exited-ends h x =
      on_hart-any (Ended (exit h x) t) t h _ (λ _. refused NoSuchHart refl) (λ _ _. refused HartIdle refl) λ s _ e.
      refuse_if-any (Ended (exit h x) t) _ WrongWayOut t _ (λ _. refused WrongWayOut refl) λ f.
      leader_exited-ends (exit h x) h x s e (or_right (is_slot s t.books.init || (at t.core s).kin.system) _ f) (or_right (is_slot s t.books.init) _ (or_left _ _ f)) (or_left _ _ (or_left _ _ f))

  thread_exited-ends : (h x : ℕ) → Ended (thread_exit h x) t (thread_exited t h x)
  unfolding thread_exited thread_exited_by thread_ended moves on_core spends_pid forks number_of
  thread_exited-ends h x =
      on_hart-any (Ended (thread_exit h x) t) t h _ (λ _. refused NoSuchHart refl) (λ _ _. refused HartIdle refl) λ s _ e.
      refuse_if-any (Ended (thread_exit h x) t) _ WrongWayOut t _ (λ _. refused WrongWayOut refl) λ f.
      go s e (or_right (is_slot s t.books.init) _ f) (or_left _ _ f) (at t.core s).kin.thread refl
    where
      go : (s : ℕ) → runs t h s → (at t.core s).kin.system ≡ false → is_slot s t.books.init ≡ false → (b : Bool) → (at t.core s).kin.thread ≡ b
          → Ended (thread_exit h x) t (cond b (thread_ended t h x s) (leader_exited t h x s))
      go s e v n true y = granted (Ok Done) _ refl (thread-chain t w h s e x y v n)
      go s e v n false y = leader_exited-ends (thread_exit h x) h x s e y v n

  -- ---- grow
  grown-ends : (h : ℕ) (d : ℤ) (memory : Bool) → Ended (grow h d memory) t (grown t h d memory)
  unfolding grown grown_by grown_to resize spends_pid forks number_of
  grown-ends h d memory =
      on_hart-any (Ended (grow h d memory) t) t h _ (λ _. refused NoSuchHart refl) (λ _ _. refused HartIdle refl) λ s _ e.
      in_group-any (Ended (grow h d memory) t) t s _ (λ _. refused NoGroup refl) λ g m.
      found-any (Ended (grow h d memory) t) SizeOutOfLimits t _ _ (λ _. refused SizeOutOfLimits refl) λ n o.
      refuse_if-any (Ended (grow h d memory) t) _ NoMemory t _ (λ _. refused NoMemory refl) λ _.
      granted (Ok Done) _ refl (one (resizing g n s (within-top _ n o) (runs-range h s t.core w.queued e) (names-own t w h s e g m)))

  pub step-ends : (c : Call) → Ended c t (step t c)
  unfolding step
  step-ends boot = booted-ends
  step-ends start = started-ends
  step-ends (spawn name entry) = spawned-ends name entry
  step-ends (system_return h) = system_returned-ends h
  step-ends (fork h memory) = forked-ends h memory
  step-ends (thread h a p) = threaded-ends h a p
  step-ends (dispatch h) = dispatched-ends h
  step-ends (yield h) = yielded-ends h
  step-ends (sleep h ch) = slept-ends h ch
  step-ends (wakeup ch) = woken-ends ch
  step-ends (kill p) = killed-ends p
  step-ends (wait h x) = waited-ends h x
  step-ends (join h p x) = joined-ends h p x
  step-ends (thread_exit h x) = thread_exited-ends h x
  step-ends (exit h x) = exited-ends h x
  step-ends (grow h d memory) = grown-ends h d memory
