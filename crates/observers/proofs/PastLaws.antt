-- What the table is said to have where it has nothing.
use Rattle.std.specs.Prelude.{Some, None}
use Prim.Native.Nat.{ℕ, ◌≤◌, ◌<◌}
use native.Mathlib.Omega.{arith}
use mathlib.Core.Path.{◌≡◌, sym, ap}
use mathlib.Core.Bool.{false, cond}
use mathlib.Core.List.{List}
use lib.ListN.{length, get_or, get_or-eq_default}
use lib.Dec.{ltb}
use borrow.Author.Tests.{lt-ltb, le-ltb}
use Rattle.rules.specs.declared.ProcState.TheVariants.{UNUSED}
use Rattle.rules.specs.declared.ProcMeta.{ProcMeta}
use Rattle.rules.specs.declared.Kin.{Kin}
use Rattle.rules.specs.declared.Process.{Process}
use Rattle.rules.specs.declared.Group.{Group}
use Rattle.rules.specs.Sizes.{slot_count, group_count, hart_count}
use Rattle.rules.specs.Model.{at, hart_at, group_at, no_group, free, pid, slot}
use Rattle.words.specs.Reading.{table_of}
use Rattle.words.proofs.Facts.{slots-count, groups-count, harts-count}

module _ (w : List ℕ) where
  slot-past : (s : ℕ) → slot_count ≤ s → free ≡ at (table_of w).core s
  slot-past s b = sym (get_or-eq_default (table_of w).core.slots free (omega (arith, b, slots-count w)))

  pub meta-past : (s : ℕ) → slot_count ≤ s → ◌≡◌ {A = ProcMeta} (record { state = UNUSED; channel = 0; killed = false; xstate = 0; pid = pid 0; queued = false }) (at (table_of w).core s).meta
  unfolding free
  meta-past s b = ap (λ (p : Process). p.meta) (slot-past s b)

  pub kin-past : (s : ℕ) → slot_count ≤ s → ◌≡◌ {A = Kin} (record { group = None; parent = None; thread = false; system = false }) (at (table_of w).core s).kin
  unfolding free
  kin-past s b = ap (λ (p : Process). p.kin) (slot-past s b)

  pub hart-past : (h : ℕ) → hart_count ≤ h → None ≡ hart_at (table_of w).core h
  hart-past h b = sym (get_or-eq_default (table_of w).core.harts None (omega (arith, b, harts-count w)))

  pub group-past : (g : ℕ) → group_count ≤ g → 0 ≡ (group_at (table_of w).books g).size
  group-past g b = ap (λ (x : Group). x.size) (sym (get_or-eq_default (table_of w).books.groups no_group (omega (arith, b, groups-count w))))

module _ (q : List ℕ) (k : ℕ) where
  pub queue-past : length q ≤ k → None ≡ cond (ltb k (length q)) (Some (slot (get_or q k 0))) None
  queue-past b = rw (le-ltb k (length q) b)

  pub queue-in : {s : ℕ} → k < length q → s ≡ get_or q k 0 → Some (slot s) ≡ cond (ltb k (length q)) (Some (slot (get_or q k 0))) None
  queue-in b e = rw (lt-ltb k (length q) b, e)

pub ruleset past_laws = (meta-past, kin-past, hart-past, group-past, queue-past, queue-in)
