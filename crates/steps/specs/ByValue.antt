-- The code's calls as the rules have them.
use Rattle.std.specs.Prelude.{ℕ, List, cond, take, drop, ltb}
use Rattle.rules.specs.Runs as rules
use Rattle.steps.specs.declared.Call.{Call}
use Rattle.steps.specs.declared.Call.TheVariants.{Boot, Start, Spawn, SystemReturn, Fork, Thread, Dispatch, Yield, Sleep, Wakeup, Kill, Wait, Join, ThreadExit, Exit, Grow}

abbrev pub least : ℕ → ℕ → ℕ
least a b = cond (ltb a b) a b

-- len bytes of the text from start on, as far as it goes
abbrev pub piece_of : List ℕ → ℕ → ℕ → List ℕ
piece_of text start len = take len (drop start text)

abbrev pub call_of : List ℕ → Call → rules.Call
call_of text Boot = rules.boot
call_of text Start = rules.start
call_of text (Spawn start len entry) = rules.spawn (piece_of text start len) entry
call_of text (SystemReturn h) = rules.system_return h
call_of text (Fork h memory) = rules.fork h memory
call_of text (Thread h a m) = rules.thread h a m
call_of text (Dispatch h) = rules.dispatch h
call_of text (Yield h) = rules.yield h
call_of text (Sleep h channel) = rules.sleep h channel
call_of text (Wakeup channel) = rules.wakeup channel
call_of text (Kill p) = rules.kill p
call_of text (Wait h w) = rules.wait h w
call_of text (Join h p w) = rules.join h p w
call_of text (ThreadExit h x) = rules.thread_exit h x
call_of text (Exit h x) = rules.exit h x
call_of text (Grow h count memory) = rules.grow h count memory
