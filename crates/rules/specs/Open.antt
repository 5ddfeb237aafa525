-- One name whose opening opens every definition, for a run that is to be computed.
use Rattle.std.specs.Prelude.{ℕ}
use Rattle.rules.specs.Sizes.{slot_count, group_count, hart_count, pid_top, address_top, name_size, page_size, trampoline, trapframe, kernel_stack, user_sp, system_sp, thread_trapframe, init_size, init_top, size_top, first_device, line_top, listing_top}
use Rattle.rules.specs.Answers.{number_of, values_of, room_values}
use Rattle.rules.specs.Model.{free, taken, fresh}
use Rattle.rules.specs.Moves.{change, publish, hand, idle, yield_on, sleep_on, zombie_on, sweep, first_from, lowest, publish_if, wake_one, wake, wake_of, slay, hand_over, reparent, new_group, open_group, join_group, leave_group, resize, set_init, spend, reap}
use Rattle.rules.specs.Calls.{gives, moves, refuse, refuse_if, found, runner, on_hart, member, in_group, spent, taking, fill, publish_new, made_in, padded, init_name, init_in, booted_in, booted, started_at, started, system_in, spawned_in, spawned, system_returned_by, system_returned, child_in, forked_in, forked_by, forked, wrong_ask, unmapped, leader_of, thread_in, threaded_in, threaded_by, threaded, hand_next, dispatched, yielded, slept, woken, has_pid, killed, child_of, zombie_child_of, waited_for, waited, thread_of, thread_named, signed, joined_to, joined_by, joined, thread_ended, reap_if_zombie, reap_first, reap_threads, departing, exited_past, leader_exited, exited_by, exited, thread_exited_by, thread_exited, within, upward, grown_to, grown_by, grown}
use Rattle.rules.specs.Listing.{bytes, digits_in, digits, state_text, up_to_zero, shown, line_of, lines_of, listing, fits_in, room_for, listed_part, listed_buffer}
use Rattle.rules.specs.Runs.{step, run_by, run}

unfoldable pub everything : ℕ
unfolding slot_count group_count hart_count pid_top address_top name_size page_size trampoline trapframe kernel_stack user_sp system_sp thread_trapframe init_size init_top size_top first_device line_top listing_top number_of values_of room_values free taken fresh change publish hand idle yield_on sleep_on zombie_on sweep first_from lowest publish_if wake_one wake wake_of slay hand_over reparent new_group open_group join_group leave_group resize set_init spend reap gives moves refuse refuse_if found runner on_hart member in_group spent taking fill publish_new made_in padded init_name init_in booted_in booted started_at started system_in spawned_in spawned system_returned_by system_returned child_in forked_in forked_by forked wrong_ask unmapped leader_of thread_in threaded_in threaded_by threaded hand_next dispatched yielded slept woken has_pid killed child_of zombie_child_of waited_for waited thread_of thread_named signed joined_to joined_by joined thread_ended reap_if_zombie reap_first reap_threads departing exited_past leader_exited exited_by exited thread_exited_by thread_exited within upward grown_to grown_by grown bytes digits_in digits state_text up_to_zero shown line_of lines_of listing fits_in room_for listed_part listed_buffer step run_by run
everything = 0
