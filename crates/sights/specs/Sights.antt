-- What a host reads of a table: whether a text fits, in three words; the table's text in a buffer; a slot, in ten words.
use Rattle.std.specs.Prelude.{ℕ, suc, Bool, cond, List, [], ◌∷◌, length, ltb, Option, Some, None, Result, Ok, Err}
use Rattle.rules.specs.declared.Slot.{Slot}
use Rattle.rules.specs.declared.Refusal.{Refusal}
use Rattle.rules.specs.declared.Refusal.TheVariants.{NoRoom}
use Rattle.rules.specs.declared.Process.{Process}
use Rattle.rules.specs.Model.{Table, state_code}
use Rattle.buffers.specs.Text.{put}
use Rattle.answers.specs.Words.{coded}
use Rattle.shows.specs.Shows.{show_text, show_top}

-- ---- a text fits: 7 and its length, or why not
unfoldable pub room_words : Result ℕ Refusal → List ℕ
room_words (Ok n) = 7 ∷ n ∷ 0 ∷ []
room_words (Err why) = coded (Err why)

-- ---- the table's text, in a buffer with room for any table's
unfoldable pub show_room : Table → ℕ → Result ℕ Refusal
show_room t room = cond (ltb room show_top) (Err NoRoom) (Ok (length (show_text t)))

unfoldable pub show_buffer : Table → List ℕ → List ℕ
show_buffer t b = cond (ltb (length b) show_top) b (put b 0 (show_text t))

-- ---- a slot
-- no is 0, yes is 1
unfoldable pub flag_word : Bool → ℕ
flag_word b = cond b 1 0

-- none is 0, a slot or a group one more than its number
unfoldable pub place_word : Option Slot → ℕ
place_word None = 0
place_word (Some s) = suc s.0

unfoldable pub group_word : Option ℕ → ℕ
group_word None = 0
group_word (Some g) = suc g

unfoldable pub slot_words : Process → List ℕ
slot_words p =
    state_code p.meta.state
    ∷ p.meta.channel
    ∷ flag_word p.meta.killed
    ∷ p.meta.xstate
    ∷ p.meta.pid.0
    ∷ flag_word p.meta.queued
    ∷ group_word p.kin.group
    ∷ place_word p.kin.parent
    ∷ flag_word p.kin.thread
    ∷ flag_word p.kin.system
    ∷ []
