-- What the crates above may know of the table that words hold: its lengths, and nothing of the words.
use Rattle.std.proofs.Common.{◌≡◌, ℕ, List, length}
use Rattle.rules.specs.Sizes.{slot_count, group_count, hart_count}
use Rattle.words.specs.Reading.{slots_of, groups_of, harts_of, core_of, books_of, table_of}
use Rattle.words.proofs.Tabs.{length-tab}

pub slots-count : (w : List ℕ) → length (table_of w).core.slots ≡ slot_count
unfolding table_of core_of slots_of
slots-count w = length-tab slot_count _

pub groups-count : (w : List ℕ) → length (table_of w).books.groups ≡ group_count
unfolding table_of books_of groups_of
groups-count w = length-tab group_count _

pub harts-count : (w : List ℕ) → length (table_of w).core.harts ≡ hart_count
unfolding table_of core_of harts_of
harts-count w = length-tab hart_count _
