-- The numbers of the port. A larger table changes the first of them, and Table::SLOTS in the code; it divides 2^32 (Laws/Ring.antt) and is a multiple of 4 (wakes).
use Rattle.std.specs.Prelude.{ℕ, suc, ◌+◌, ◌-◌, ◌*◌, ◌^◌}

unfoldable pub slot_count : ℕ
slot_count = 64

-- as many groups as slots
unfoldable pub group_count : ℕ
group_count = slot_count

unfoldable pub hart_count : ℕ
hart_count = 8

unfoldable pub pid_top : ℕ
pid_top = 2 ^ 64 - 1

unfoldable pub address_top : ℕ
address_top = 2 ^ 64 - 1

unfoldable pub name_size : ℕ
name_size = 16

-- ---- addresses
unfoldable pub page_size : ℕ
page_size = 4096

unfoldable pub trampoline : ℕ
trampoline = 2 ^ 38 - page_size

unfoldable pub trapframe : ℕ
trapframe = trampoline - page_size

-- the kernel stack of slot s: four pages and a guard page
unfoldable pub kernel_stack : ℕ → ℕ
kernel_stack s = trampoline - (s + 1) * 5 * page_size

-- the first stack pointer of a user slot, and of a system thread, which may use all four pages
unfoldable pub user_sp : ℕ → ℕ
user_sp s = kernel_stack s + page_size

unfoldable pub system_sp : ℕ → ℕ
system_sp s = kernel_stack s + 4 * page_size

-- the trapframe address of a thread in slot s
unfoldable pub thread_trapframe : ℕ → ℕ
thread_trapframe s = trapframe - (s + 1) * page_size

-- init's first size and stack top
unfoldable pub init_size : ℕ
init_size = page_size

unfoldable pub init_top : ℕ
init_top = 4 * page_size

-- no group grows past this
unfoldable pub size_top : ℕ
size_top = trapframe - slot_count * page_size

-- ---- channels: 0 is none, then each slot's own, then the devices'
abbrev pub own_channel : ℕ → ℕ
own_channel s = suc s

unfoldable pub first_device : ℕ
first_device = slot_count + 1

-- ---- the listing at the longest: a line, with 20 digits, the longest state and a full name; and the whole
unfoldable pub line_top : ℕ
line_top = 50 + name_size

unfoldable pub listing_top : ℕ
listing_top = slot_count * line_top
