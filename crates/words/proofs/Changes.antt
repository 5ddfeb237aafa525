-- Changes of one slot or one group, one after another.
use Rattle.std.proofs.Common.{◌≡◌, ℕ, zero, suc, List, [], ◌∷◌, get_or, set, refl, ap, ◌∙◌}
use Rattle.rules.specs.declared.ProcMeta.{ProcMeta}
use Rattle.rules.specs.declared.Process.{Process}
use Rattle.rules.specs.declared.Group.{Group}
use Rattle.rules.specs.Model.{Table, on_meta, free, no_group}
use Rattle.rules.specs.Moves.{change, set_group, resize}
use Rattle.promises.specs.Order.Chains.{on_core}
use Rattle.words.specs.Effects.{with_state, with_channel, with_killed, with_xstate, with_pid, with_queued, with_meta, on_books, recount}

set_twice : {A : Type 0} (d : A) (f g : A → A) (l : List A) (i : ℕ) → set (set l i (f (get_or l i d))) i (g (get_or (set l i (f (get_or l i d))) i d)) ≡ set l i (g (f (get_or l i d)))
set_twice d f g [] i = refl
set_twice d f g (x ∷ l) zero = refl
set_twice {A} d f g (x ∷ l) (suc i) = ap (λ (r : List A). x ∷ r) (set_twice d f g l i)

-- f and then g is one change
pub change-then : (f g : Process → Process) (s : ℕ) (t : Table) {u v : Table} → u ≡ on_core (change f s) t → v ≡ on_core (change g s) u → v ≡ on_core (change (λ p. g (f p)) s) t
unfolding change on_core
change-then f g s t p q = q ∙ ap (on_core (change g s)) p ∙ ap (λ (l : List Process). on_core (λ c. record { slots = l; queue = c.queue; harts = c.harts }) t) (set_twice free f g t.core.slots s)

-- the fields of a slot's meta, one after another, that is its meta
pub meta_then : (m : ProcMeta) (s : ℕ) (t : Table)
    → on_core (change (on_meta (with_queued m.queued)) s) (on_core (change (on_meta (with_pid m.pid)) s) (on_core (change (on_meta (with_xstate m.xstate)) s)
    (on_core (change (on_meta (with_killed m.killed)) s) (on_core (change (on_meta (with_channel m.channel)) s) (on_core (change (on_meta (with_state m.state)) s) t)))))
    ≡ on_core (change (with_meta m) s) t
meta_then m s t =
    change-then _ _ s t (change-then _ _ s t (change-then _ _ s t (change-then _ _ s t (change-then _ _ s t refl refl) refl) refl) refl) refl

-- a group's size and then its count, that is the group
pub group_then : (g : ℕ) (x : Group) (t : Table) → on_books (recount g x.count) (on_books (resize g x.size) t) ≡ on_books (set_group g x) t
unfolding resize recount on_books
group_then g x t = ap (λ (l : List Group). on_books (λ b. record { groups = l; init = b.init; pids = b.pids }) t)
    (set_twice no_group (λ y. record { size = x.size; count = y.count }) (λ y. record { size = y.size; count = x.count }) t.books.groups g)
