-- One name whose opening opens every definition that a line is answered by.
use Rattle.std.specs.Prelude.{ℕ}
use Rattle.rules.specs.Open.{everything}
use Rattle.promises.specs.Laws.Digits.{read_on, value_of}
use Rattle.buffers.specs.Text.{put}
use Rattle.codes.specs.Codes.{signed_of, is_flag, yes, is_wish, wish_of, is_mapped, mapped_of, only_if, calls, call_numbered, call_in}
use Rattle.pieces.specs.Pieces.{signed_digits, flag_text, place_text, hex_digit, hex_text, field, flag, place}
use Rattle.texts.specs.Texts.{refusal_words, said_of, answer_text}
use Rattle.shows.specs.Shows.{others, separated, queue_text, harts_text, head_text, meta_text, group_text, kin_text, record_text, name_text, start_text, used_text, slot_text, slots_text, show_text}
use Rattle.lines.specs.Words.{front, past, space_is, first_word, after_word, same}
use Rattle.lines.specs.Grammar.{command, grammar, number_among, command_of, is_command, kinds_of, kind_at}
use Rattle.lines.specs.Values.{inside, nibble, all_below, limited, number_in, and_then, positive, negative, count_in, flag_in, wish_in, is_hex, unhex, name_good, name_bytes, name_worth, value_in, argument_in}
use Rattle.lines.specs.Meaning.{and_more, arguments_in, bits, flags_together, words_of, called_by, command_means, with_arguments, means}
use Rattle.desk.specs.Desk.{why_text, misread_text, table_after, text_for}

unfoldable pub every_line : ℕ
unfolding everything read_on value_of put signed_of is_flag yes is_wish wish_of is_mapped mapped_of only_if calls call_numbered call_in signed_digits flag_text place_text hex_digit hex_text field flag place refusal_words said_of answer_text others separated queue_text harts_text head_text meta_text group_text kin_text record_text name_text start_text used_text slot_text slots_text show_text front past space_is first_word after_word same command grammar number_among command_of is_command kinds_of kind_at inside nibble all_below limited number_in and_then positive negative count_in flag_in wish_in is_hex unhex name_good name_bytes name_worth value_in argument_in and_more arguments_in bits flags_together words_of called_by command_means with_arguments means why_text misread_text table_after text_for
every_line = 0
