-- A slot's words, set: one, and those of a part.
use Rattle.std.specs.Prelude.{Option}
use Rattle.rules.specs.declared.Slot.{Slot}
use Rattle.rules.specs.declared.Pid.{Pid}
use Rattle.rules.specs.declared.ProcState.{ProcState}
use Rattle.std.proofs.Common.{◌≡◌, ℕ, ◌<◌, Bool, List, length, set, refl, ap, ◌∙◌, lit<}
use Rattle.rules.specs.declared.Kin.{Kin}
use Rattle.rules.specs.declared.Process.{Process}
use Rattle.rules.specs.Sizes.{slot_count}
use Rattle.rules.specs.Model.{on_meta, with_parent}
use Rattle.rules.specs.Moves.{change}
use Rattle.promises.specs.Order.Chains.{on_core}
use Rattle.words.specs.declared.slot.StartWords.{StartWords}
use Rattle.words.specs.Layout.{slot_columns, state_column, channel_column, killed_column, xstate_column, pid_column, queued_column, group_column, parent_column, thread_column, system_column, below_column, sp_column, entry_column, top_column, arg_column, ret_column, name0_column, name1_column, column_at, word_count}
use Rattle.words.specs.Reading.{tab_from, tab, row_of, process_of, start_of, table_of, state_of, flag_word, parent_word, member_word, InTable, InGroups}
use Rattle.words.specs.Effects.{with_state, with_channel, with_killed, with_xstate, with_pid, with_queued, with_kin, with_start}
use Rattle.words.proofs.Fresh.{flag-back, parent-back, member_back}
use Rattle.words.proofs.Changes.{meta_then}
use Rattle.words.proofs.Rows.{at_row, row_here, row_put, row-table}

module _ (w : List ℕ) (s : ℕ) (sb : s < slot_count) (lw : length w ≡ word_count) where
  -- a word stored in column f: the slot is as g makes it of what the word means, and nothing else changes
  column-law : {A : Type 0} (f v : ℕ) (g : A → Process → Process) {x a : A} → f < slot_columns → process_of (set (row_of w s) f v) ≡ g x (process_of (row_of w s)) → x ≡ a
      → table_of (set w (column_at f s) v) ≡ on_core (change (g a) s) (table_of w)
  column-law {A} f v g {a = a} fb e h = row-table w _ s _ (g a) sb (row_put f v fb sb (row_here w s lw)) (e ∙ ap (λ (y : A). g y (process_of (row_of w s))) h)

  pub set_state_law : (a : ProcState) (v : ℕ) → state_of v ≡ a → table_of (set w (column_at state_column s) v) ≡ on_core (change (on_meta (with_state a)) s) (table_of w)
  unfolding process_of row_of tab tab_from
  set_state_law a v e = column-law state_column v (λ x. on_meta (with_state x)) (lit< tt) refl e

  pub set_channel_law : (n : ℕ) → table_of (set w (column_at channel_column s) n) ≡ on_core (change (on_meta (with_channel n)) s) (table_of w)
  unfolding process_of row_of tab tab_from
  set_channel_law n = column-law channel_column n (λ x. on_meta (with_channel x)) (lit< tt) refl refl

  pub set_killed_law : (b : Bool) → table_of (set w (column_at killed_column s) (flag_word b)) ≡ on_core (change (on_meta (with_killed b)) s) (table_of w)
  unfolding process_of row_of tab tab_from
  set_killed_law b = column-law killed_column _ (λ x. on_meta (with_killed x)) (lit< tt) refl (flag-back b)

  pub set_xstate_law : (n : ℕ) → table_of (set w (column_at xstate_column s) n) ≡ on_core (change (on_meta (with_xstate n)) s) (table_of w)
  unfolding process_of row_of tab tab_from
  set_xstate_law n = column-law xstate_column n (λ x. on_meta (with_xstate x)) (lit< tt) refl refl

  pub set_pid_law : (p : Pid) → table_of (set w (column_at pid_column s) p.0) ≡ on_core (change (on_meta (with_pid p)) s) (table_of w)
  unfolding process_of row_of tab tab_from
  set_pid_law p = column-law pid_column p.0 (λ x. on_meta (with_pid x)) (lit< tt) refl refl

  pub set_queued_law : (b : Bool) → table_of (set w (column_at queued_column s) (flag_word b)) ≡ on_core (change (on_meta (with_queued b)) s) (table_of w)
  unfolding process_of row_of tab tab_from
  set_queued_law b = column-law queued_column _ (λ x. on_meta (with_queued x)) (lit< tt) refl (flag-back b)

  pub set_parent_law : (p : Option Slot) → InTable p → table_of (set w (column_at parent_column s) (parent_word p)) ≡ on_core (change (with_parent p) s) (table_of w)
  unfolding process_of row_of tab tab_from
  set_parent_law p b = column-law parent_column _ with_parent (lit< tt) refl (parent-back p b)

  pub set_kin_law : (k : Kin) → InGroups k.group → InTable k.parent
      → table_of (set (set (set (set w (column_at group_column s) (member_word k.group)) (column_at parent_column s) (parent_word k.parent)) (column_at thread_column s) (flag_word k.thread))
      (column_at system_column s) (flag_word k.system))
      ≡ on_core (change (with_kin k) s) (table_of w)
  unfolding process_of row_of tab tab_from
  set_kin_law k p q =
      row-table w _ s _ (with_kin k) sb
      (row_put system_column _ (lit< tt) sb (row_put thread_column _ (lit< tt) sb (row_put parent_column _ (lit< tt) sb (row_put group_column _ (lit< tt) sb (row_here w s lw)))))
      (λ i. with_kin (record { group = member_back k.group p i; parent = parent-back k.parent q i; thread = flag-back k.thread i; system = flag-back k.system i }) (process_of (row_of w s)))

  pub set_start_law : (b : StartWords)
      → table_of (set (set (set (set (set (set (set (set w (column_at below_column s) b.below) (column_at sp_column s) b.sp) (column_at entry_column s) b.entry) (column_at top_column s) b.top) (column_at arg_column s) b.arg)
      (column_at ret_column s) b.ret) (column_at name0_column s) b.name0) (column_at name1_column s) b.name1)
      ≡ on_core (change (with_start (start_of b)) s) (table_of w)
  unfolding process_of row_of tab tab_from
  set_start_law b =
      row-table w _ s _ (with_start (start_of b)) sb
      (row_put name1_column b.name1 (lit< tt) sb (row_put name0_column b.name0 (lit< tt) sb (row_put ret_column b.ret (lit< tt) sb (row_put arg_column b.arg (lit< tt) sb
      (row_put top_column b.top (lit< tt) sb (row_put entry_column b.entry (lit< tt) sb (row_put sp_column b.sp (lit< tt) sb (row_put below_column b.below (lit< tt) sb (row_here w s lw)))))))))
      refl

-- what the functions of src/slot.rt are proved by
pub ruleset slot_laws = (at_row, set_state_law, set_channel_law, set_killed_law, set_xstate_law, set_pid_law, set_queued_law, meta_then, set_parent_law, set_kin_law, set_start_law)
