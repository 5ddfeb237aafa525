use Rattle.std.specs.Prelude.{Ok}
use Rattle.rules.specs.declared.Grant.{Grant}
use Rattle.std.proofs.Common.{arith, lit≤, w32, to_z-of_z}
use Rattle.buffers.proofs.TextLaws.{wrote_as, wrote-near, wrote-more}
use Rattle.rules.specs.declared.Grant.TheVariants.{Done, Blocked}
use Rattle.pieces.specs.Pieces.{field}
use Rattle.texts.specs.Texts.{said_of}
use Rattle.rules.specs.Listing.{bytes}
use Rattle.texts.proofs.said.write_grant.Goals as goal

pub returns-in-Done : goal.returns-in-Done
unfolding said_of bytes
returns-in-Done c =
    wrote-near (λ (g : Grant). said_of (Ok g)) Done {x = c.args.g} (cc) (lit≤ tt) c.write.ensures

pub returns-in-Made : goal.returns-in-Made
unfolding said_of field bytes
returns-in-Made c =
    (wrote_as (λ (g : Grant). said_of (Ok g)) _ {x = c.args.g} c.in-Made.is c.write_field.ensures.0, omega (arith, c.write_field.ensures.1))

pub returns-in-Handed : goal.returns-in-Handed
unfolding said_of field bytes
returns-in-Handed c =
    (wrote_as (λ (g : Grant). said_of (Ok g)) _ {x = c.args.g} c.in-Handed.is c.write_field-in-Handed.ensures.0, omega (arith, c.write_field-in-Handed.ensures.1))

pub returns-in-Reaped : goal.returns-in-Reaped
unfolding said_of field bytes
returns-in-Reaped c =
    (wrote_as (λ (g : Grant). said_of (Ok g)) _ {x = c.args.g} c.in-Reaped.is (wrote-more c.write_field-on.ensures.0 c.write_field-in-Reaped.ensures.0), omega (arith, c.write_field-on.ensures.1, c.write_field-in-Reaped.ensures.1))

pub returns-in-Joined : goal.returns-in-Joined
unfolding said_of bytes
returns-in-Joined c =
    (wrote_as (λ (g : Grant). said_of (Ok g)) _ {x = c.args.g} c.in-Joined.is (rw (to_z-of_z {w = w32} (record { sfits = c.in-Joined.known_told-in-Joined-1-own.given.0.1 })) at (wrote-more c.write-on.ensures c.write_signed.ensures.0)), omega (arith, c.write-on.ensures.place, c.write_signed.ensures.1))

pub returns-in-Blocked : goal.returns-in-Blocked
unfolding said_of bytes
returns-in-Blocked c =
    wrote-near (λ (g : Grant). said_of (Ok g)) Blocked {x = c.args.g} (cc) (lit≤ tt) c.write-in-Blocked.ensures
