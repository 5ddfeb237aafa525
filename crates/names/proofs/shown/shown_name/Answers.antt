use Rattle.std.proofs.Common.{◌≡◌, rules, map, take, arith, length}
use Rattle.std.proofs.lemmas.Iterator.{IsFirst-from_position, YieldsList-from_slice}
use Rattle.std.proofs.lemmas.List.{length-take-le}
use borrow.Author.Tests.{tests}
use Rattle.rules.specs.Listing.{shown}
use Rattle.names.proofs.NameLaws.{mapped, first-zero, shown-front}
use Rattle.names.proofs.shown.shown_name.Goals as goal

pub returns : goal.returns
returns c =
    let name = c.unpack-bytes.result in
    let len = c.unwrap_or-len.result in
    let items = c.loop-b.b-items in
    let long : length name ≡ 16 = search rules in
    let first = IsFirst-from_position _ _ c.position.result (λ x. x ≡ 0) (λ x. x ≡ 0 → ⊥) c.position.ensures.ran (YieldsList-from_slice name (cc)) (λ x q k. search (rules, tests)) (λ x q k. search (rules, tests)) in
    let zero = first-zero name c.position.result len first (rw long c.unwrap_or-len.ensures) in
    let part : length (take len name) ≡ len = length-take-le len name zero.1 in
    let all : items ≡ map shown (take len name) = mapped shown (take len name) items (omega arith) (λ i h. c.loop-b.invariant.done i (omega arith)) in
    (rw (← c.unpack-bytes.ensures) (shown-front name items _ len zero.0 (omega arith) all), omega (arith, zero.1))
