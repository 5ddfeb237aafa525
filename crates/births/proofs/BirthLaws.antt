-- Each way through boot, start, spawn and a system thread's return, as the rules have it.
use Rattle.std.specs.Prelude.{Option, Some, None, Ok, Err, IsErr, IsErrAnd, is_some, ok_or}
use Prim.Native.Nat.{ℕ, ◌*◌, ◌≤◌, ◌<◌}
use mathlib.Core.Path.{◌≡◌, refl, sym, ap, ◌∙◌, subst}
use mathlib.Core.Bool.{Bool, true, false, not}
use mathlib.Core.List.{List, ◌++◌}
use mathlib.Core.Logic.{inl}
use lib.ListN.{length}
use borrow.Author.Tests.{lt-ltb, le-ltb}
use Rattle.rules.specs.declared.ProcState.TheVariants.{ALLOCATED}
use Rattle.rules.specs.declared.Slot.{Slot}
use Rattle.rules.specs.declared.Kin.{Kin}
use Rattle.rules.specs.declared.Refusal.{Refusal}
use Rattle.rules.specs.declared.Refusal.TheVariants.{InitOutOfTurn, WrongWayOut, NameTooLong}
use Rattle.rules.specs.Types.{Answer}
use Rattle.rules.specs.declared.Grant.TheVariants.{Done, Made}
use Rattle.rules.specs.Sizes.{slot_count, trampoline, trapframe, page_size, name_size, user_sp, system_sp, init_size, init_top}
use Rattle.rules.specs.Model.{Core, Table, at, is, known, taken, pid, slot}
use Rattle.rules.specs.Moves.{publish, idle, new_group, open_group, set_group, set_init, reap}
use Rattle.rules.specs.Calls.{fill, made_in, padded, init_name, init_in, booted_in, booted, started_at, started, publish_new, system_in, spawned_in, spawned, system_returned_by, system_returned}
use Rattle.rules.specs.Runs.{step, boot, start, spawn, system_return}
use Rattle.promises.specs.Order.Sound.{Queued, Sound}
use Rattle.promises.specs.Order.States.{quiet}
use Rattle.promises.specs.Order.Room.{queue-room}
use Rattle.promises.specs.Order.Chains.{on_core}
use Rattle.promises.specs.Did.{Makes, Did}
use Rattle.promises.proofs.Did.{did}
use Rattle.words.specs.Reading.{start_of, bytes_of}
use Rattle.words.specs.Effects.{on_books, with_init}
use Rattle.taking.specs.Parts.{caller_of, taken_of, after_take}
use Rattle.taking.proofs.Facts.{turned_down, given, moved, if-so, if-not, hart-no, hart-is, take_no, take-is, taken-room, exit-refused}

-- ---- boot
known-is : (p : Option Slot) → known p ≡ is_some p
known-is None = refl
known-is (Some s) = refl

module _ {t : Table} (w : Sound t) {p : Option Slot} (i : p ≡ t.books.init) where
  there : {b : Bool} → b ≡ is_some p → known t.books.init ≡ b
  there f = ap known (sym i) ∙ known-is p ∙ sym f

  pub boot-known : true ≡ is_some p → Did boot t (Err InitOutOfTurn) t
  unfolding step booted
  boot-known f = did w (if-so _ (there f))

  module _ (f : false ≡ is_some p) where
    pub boot-no : {r : Answer} {n : Refusal} {u : Table} → Err n ≡ taken_of t → u ≡ after_take t → IsErr r × IsErrAnd r (λ m. m ≡ n) → Did boot t r u
    unfolding step booted
    boot-no z e g = did w (exit-refused g (if-not _ t (there f) (take_no t _ z e)))

    pub boot-is : {s : ℕ} {a : Answer} {v u : Table} → Ok s ≡ taken_of t → v ≡ after_take t → Makes (booted_in s v) a u → Did boot t a u
    unfolding step booted
    boot-is z e m = did w (if-not _ t (there f) (take-is t booted_in z e m))

module _ (t : Table) where
  pub init-law : (s low high : ℕ) {n g p : ℕ} {u : Table} → n ≡ t.books.pids → g ≡ new_group t.books → p ≡ user_sp s → bytes_of low ++ bytes_of high ≡ init_name
      → u ≡ on_books (with_init (Some (slot s))) (on_books (set_group g (record { size = 4096; count = 1 })) (on_core (fill s (taken n
      (record { group = Some g; parent = None; thread = false; system = false })
      (start_of (record { below = 0; sp = p; entry = 0; top = 4 * 4096; arg = 0; ret = 0; name0 = low; name1 = high })))) t))
      → Makes (booted_in s t) (Ok (Made (pid n))) u
  unfolding booted_in made_in init_in open_group set_init on_core on_books with_init init_size init_top page_size trapframe trampoline
  init-law s low high en eg ep e f = given (ap (λ (m : ℕ). Ok (Made (pid m))) en) (f ∙ λ i. record {
    core = fill s (taken (en i)
        (record { group = Some (eg i); parent = None; thread = false; system = false })
        (record { trapframe = trapframe; sp = ep i; entry = 0; top = init_top; arg = 0; ret = 0; name = e i })) t.core;
    books = set_init s (set_group (eg i) (record { size = init_size; count = 1 }) t.books);
  })

-- ---- start
-- an ALLOCATED slot does not wait, so the queue has room for it
pub allocated-room : (c : Core) (s : ℕ) → Queued c → is ALLOCATED (at c s) ≡ true → length c.queue < slot_count
allocated-room c s v e = let q = quiet (at c s) (inl e) in queue-room c v s q.used q.ready

module _ {t : Table} (w : Sound t) where
  at-init : {p : Option Slot} {a : Answer} {u : Table} → p ≡ t.books.init → Makes (started_at t p) a u → Did start t a u
  unfolding step started
  at-init {a = a} {u = u} i m = did w (subst (λ (q : Option Slot). Makes (started_at t q) a u) i m)

  pub start-none : {r : Answer} {n : Refusal} {p : Option Slot} → p ≡ t.books.init → Err n ≡ ok_or p InitOutOfTurn → IsErr r × IsErrAnd r (λ m. m ≡ n) → Did start t r t
  unfolding started_at
  start-none {n = n} {p = None} i e g = let z : n ≡ InitOutOfTurn = cc in at-init i (exit-refused g (rw z (turned_down refl)))
  start-none {p = Some s} i e g = absurd cc

  module _ {p : Option Slot} (i : p ≡ t.books.init) {s : Slot} (e : p ≡ Some s) where
    pub start-late : false ≡ is ALLOCATED (at t.core s.0) → Did start t (Err InitOutOfTurn) t
    unfolding started_at
    start-late z = at-init (sym e ∙ i) (if-so _ (ap not (sym z)))

    pub start-is : {u : Table} → true ≡ is ALLOCATED (at t.core s.0) → u ≡ on_core (publish s.0) t → Did start t (Ok Done) u
    unfolding started_at
    start-is z f = at-init (sym e ∙ i) (if-not _ t (ap not (sym z)) (moved t (publish s.0) f))

-- ---- a system thread
module _ {t : Table} (w : Sound t) {name : List ℕ} {entry : ℕ} where
  pub spawn-long : name_size < length name → Did (spawn name entry) t (Err NameTooLong) t
  unfolding step spawned
  spawn-long b = did w (if-so _ (lt-ltb name_size (length name) b))

  module _ (b : length name ≤ name_size) where
    pub spawn-no : {r : Answer} {n : Refusal} {u : Table} → Err n ≡ taken_of t → u ≡ after_take t → IsErr r × IsErrAnd r (λ m. m ≡ n) → Did (spawn name entry) t r u
    unfolding step spawned
    spawn-no z e g = did w (exit-refused g (if-not _ t (le-ltb name_size (length name) b) (take_no t _ z e)))

    pub spawn-is : {s : ℕ} {a : Answer} {v u : Table} → Ok s ≡ taken_of t → v ≡ after_take t → Makes (spawned_in name entry s v) a u → Did (spawn name entry) t a u
    unfolding step spawned
    spawn-is z e m = did w (if-not _ t (le-ltb name_size (length name) b) (take-is t (spawned_in name entry) z e m))

module _ (t : Table) (name : List ℕ) (entry : ℕ) where
  pub system-law : (s low high : ℕ) {n p : ℕ} {u : Table} → n ≡ t.books.pids → p ≡ system_sp s → bytes_of low ++ bytes_of high ≡ padded name
      → u ≡ on_core (publish s) (on_core (fill s (taken n
      (record { group = None; parent = None; thread = false; system = true })
      (start_of (record { below = 0; sp = p; entry = entry; top = 0; arg = 0; ret = 0; name0 = low; name1 = high })))) t)
      → Makes (spawned_in name entry s t) (Ok (Made (pid n))) u
  unfolding spawned_in made_in publish_new system_in on_core trapframe trampoline page_size
  system-law s low high en ep e f = given (ap (λ (m : ℕ). Ok (Made (pid m))) en) (f ∙ λ i. record {
    core = publish s (fill s (taken (en i)
        (record { group = None; parent = None; thread = false; system = true })
        (record { trapframe = trapframe; sp = ep i; entry = entry; top = 0; arg = 0; ret = 0; name = e i })) t.core);
    books = t.books;
  })

-- ---- a system thread's return
user : {j k : Kin} {b : Bool} → k ≡ j → not k.system ≡ b → not j.system ≡ b
user e f = ap (λ (k : Kin). not k.system) (sym e) ∙ f

module _ {t : Table} {h : ℕ} (w : Sound t) where
  pub return-no : {r : Answer} {n : Refusal} → Err n ≡ caller_of t.core h → IsErr r × IsErrAnd r (λ m. m ≡ n) → Did (system_return h) t r t
  unfolding step system_returned
  return-no e g = did w (exit-refused g (hart-no t h _ e))

  module _ {s : ℕ} (c : Ok s ≡ caller_of t.core h) {k : Kin} (e : k ≡ (at t.core s).kin) where
    pub return-user : not k.system ≡ true → Did (system_return h) t (Err WrongWayOut) t
    unfolding step system_returned system_returned_by
    return-user f = did w (hart-is t h _ c (if-so _ (user e f)))

    pub return-is : {u v : Table} → not k.system ≡ false → u ≡ on_core (idle h) t → v ≡ reap s u → Did (system_return h) t (Ok Done) v
    unfolding step system_returned system_returned_by on_core
    return-is f g r = did w (hart-is t h _ c (if-not _ t (user e f) (given refl (r ∙ ap (reap s) g))))

-- ---- what the check answers refusals by, and the room that a call asks for
pub ruleset refusals = (boot-known, boot-no, allocated-room, start-none, start-late, taken-room, spawn-long, spawn-no, return-no, return-user)
