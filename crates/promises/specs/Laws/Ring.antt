-- The queue as a ring: n places, and two running counts that wrap at w, where n divides w.
use Prim.Native.Nat.{ℕ, zero, suc, ◌+◌, ◌-◌, ◌*◌, ◌/◌, ◌%◌, ◌^◌, ◌∣◌, ◌≤◌, ◌<◌}
use native.Mathlib.Omega.{arith}
use Rattle.std.proofs.Common.{not-suc-le-zero, mod-eq_of_lt, ap, ◌∙◌, get_or-set_same, get_or-set_other, ext_get_or}
use Rattle.std.proofs.Math.Nat.{mod-lt, mod-add-mod, mod-add-div, mod-mod_of_dvd, zero-mod, add-mod_right, dvd-sub, dvd-mul_right, dvd_of_mod-eq-zero, le_of_dvd}
use Rattle.std.specs.Prelude.{◌≡◌, refl, ◌≢◌, List, [], ◌∷◌, ◌++◌, length, get_or, set, replicate}
use Rattle.std.proofs.Math.Path.{sym}
use Rattle.std.proofs.Math.ListN.{length-set, length-replicate}
use Rattle.rules.specs.Sizes.{slot_count}

pub record Ring : Type 0 where
  pub places : List ℕ
  -- how many were popped, and how many pushed, modulo w
  pub head : ℕ
  pub tail : ℕ

-- k of the places, from the running count h on
unfoldable pub reads : ℕ → List ℕ → ℕ → ℕ → List ℕ
reads n p h zero = []
reads n p h (suc k) = get_or p (h % n) 0 ∷ reads n p (h + 1) k

-- the wrapping difference
unfoldable pub length_of : ℕ → Ring → ℕ
length_of w r = (r.tail + (w - r.head)) % w

unfoldable pub queue_of : ℕ → ℕ → Ring → List ℕ
queue_of n w r = reads n r.places r.head (length_of w r)

unfoldable pub empty_ring : ℕ → Ring
empty_ring n = record { places = replicate n 0; head = 0; tail = 0 }

unfoldable pub push : ℕ → ℕ → ℕ → Ring → Ring
push n w x r = record { places = set r.places (r.tail % n) x; head = r.head; tail = (r.tail + 1) % w }

unfoldable pub pop : ℕ → Ring → Ring
pop w r = record { places = r.places; head = (r.head + 1) % w; tail = r.tail }

unfoldable pub head_of : ℕ → Ring → ℕ
head_of n r = get_or r.places (r.head % n) 0

-- the counts range over whole rounds of the places, and more than one
pub record Rounds (n w : ℕ) : Type 0 where
  pub whole : n ∣ w
  pub some : 0 < n
  pub more : n < w

-- a ring in order, with k in it
pub record Holds (n w : ℕ) (r : Ring) (k : ℕ) : Type 0 where
  pub size : length r.places ≡ n
  pub low : r.head < w
  pub ends : r.tail ≡ (r.head + k) % w
  pub room : k ≤ n

-- ---- what is read
length-reads : (n : ℕ) (p : List ℕ) (h k : ℕ) → length (reads n p h k) ≡ k
unfolding reads
length-reads n p h zero = refl
length-reads n p h (suc k) = ap suc (length-reads n p (h + 1) k)

reads_at : (n : ℕ) (p : List ℕ) (h k i : ℕ) → i < k → get_or (reads n p h k) i 0 ≡ get_or p ((h + i) % n) 0
unfolding reads
reads_at n p h zero i l = absurd (not-suc-le-zero l)
reads_at n p h (suc k) zero l = let e : h + 0 ≡ h = omega arith in rw e
reads_at n p h (suc k) (suc i) l = let e : h + suc i ≡ h + 1 + i = omega arith in rw e (reads_at n p (h + 1) k i (omega arith))

reads_same : (n : ℕ) (p q : List ℕ) (h g k : ℕ) → ((i : ℕ) → i < k → get_or p ((h + i) % n) 0 ≡ get_or q ((g + i) % n) 0)
    → reads n p h k ≡ reads n q g k
reads_same n p q h g k same = ext_get_or 0 _ _ (length-reads n p h k ∙ sym (length-reads n q g k)) at_each
  where
    at_each : (i : ℕ) → i < length (reads n p h k) → get_or (reads n p h k) i 0 ≡ get_or (reads n q g k) i 0
    at_each i l = let m : i < k = omega (arith, length-reads n p h k) in reads_at n p h k i m ∙ same i m ∙ sym (reads_at n q g k i m)

reads-snoc : (n : ℕ) (p : List ℕ) (h k : ℕ) → reads n p h (suc k) ≡ reads n p h k ++ (get_or p ((h + k) % n) 0 ∷ [])
unfolding reads
reads-snoc n p h zero = let e : h + 0 ≡ h = omega arith in rw e
reads-snoc n p h (suc k) =
    let e : h + suc k ≡ h + 1 + k = omega arith in rw e (ap (λ (l : List ℕ). get_or p (h % n) 0 ∷ l) (reads-snoc n p (h + 1) k))

-- as many as the counts say, in order or not
pub queue-count : (n w : ℕ) (r : Ring) → length (queue_of n w r) ≡ length_of w r
unfolding queue_of
queue-count n w r = length-reads n r.places r.head (length_of w r)

-- going on by less than a round never comes to the same place
elsewhere : (n a d : ℕ) → 0 < d → d < n → (a + d) % n ≢ a % n
elsewhere n a d l m e =
    let rounds : n ∣ n * ((a + d) / n) - n * (a / n) = dvd-sub n (dvd-mul_right n _) (dvd-mul_right n _) in
    let way : n * ((a + d) / n) - n * (a / n) ≡ d = omega (arith, mod-add-div a n, mod-add-div (a + d) n) in
    omega (arith, le_of_dvd l (rw way at rounds))

-- ---- the laws
module _ (n w : ℕ) (f : Rounds n w) where
  module _ (r : Ring) (k : ℕ) (o : Holds n w r k) where
    pub holds-length : length_of w r ≡ k
    unfolding length_of
    holds-length =
        let e : r.head + k + (w - r.head) ≡ k + w = omega arith in
        rw (o.ends, mod-add-mod, e, add-mod_right) (mod-eq_of_lt (omega arith))

    pub queue-length : length (queue_of n w r) ≡ k
    queue-length = queue-count n w r ∙ holds-length

    pub queue-at : (i : ℕ) → i < k → get_or (queue_of n w r) i 0 ≡ get_or r.places ((r.head + i) % n) 0
    unfolding queue_of
    queue-at i l = reads_at n r.places r.head (length_of w r) i (omega (arith, holds-length))

    pub push-holds : (x : ℕ) → k < n → Holds n w (push n w x r) (suc k)
    unfolding push
    push-holds x l = record {
      size = length-set r.places (r.tail % n) x ∙ o.size;
      low = o.low;
      ends = let e : r.head + k + 1 ≡ r.head + suc k = omega arith in rw (o.ends, mod-add-mod, e);
      room = l;
    }

    tail-place : r.tail % n ≡ (r.head + k) % n
    tail-place = rw o.ends (mod-mod_of_dvd n (r.head + k) f.whole)

    -- the place at the tail is none of the k
    tail-free : k < n → (i : ℕ) → i < k → (r.head + i) % n ≢ r.tail % n
    tail-free l i m e =
        let z : r.head + i + (k - i) ≡ r.head + k = omega arith in
        elsewhere n (r.head + i) (k - i) (omega arith) (omega arith) (rw z (sym tail-place ∙ sym e))

    reads_kept : (x : ℕ) → k < n → reads n (set r.places (r.tail % n) x) r.head k ≡ reads n r.places r.head k
    reads_kept x l = reads_same n _ _ _ _ k (λ i m. get_or-set_other r.places _ _ x 0 (tail-free l i m))

    reads-new : (x : ℕ) → get_or (set r.places (r.tail % n) x) (r.tail % n) 0 ≡ x
    reads-new x = get_or-set_same r.places _ x 0 (omega (arith, mod-lt r.tail f.some))

  pub empty_holds : Holds n w (empty_ring n) 0
  unfolding empty_ring
  empty_holds = record { size = length-replicate n 0; low = omega arith; ends = sym (zero-mod w); room = omega arith }

  pub empty-queue : queue_of n w (empty_ring n) ≡ []
  unfolding queue_of reads
  empty-queue = rw (holds-length (empty_ring n) 0 empty_holds)

  -- a push appends at the tail
  pub push-queue : (r : Ring) (k : ℕ) → Holds n w r k → (x : ℕ) → k < n → queue_of n w (push n w x r) ≡ queue_of n w r ++ (x ∷ [])
  unfolding queue_of
  push-queue r k o x l =
      rw (holds-length r k o, holds-length (push n w x r) (suc k) (push-holds r k o x l))
      (unfold push in reads-snoc n _ r.head k ∙ rw (← tail-place r k o, reads_kept r k o x l, reads-new r k o x))

  pub pop-holds : (r : Ring) (k : ℕ) → Holds n w r (suc k) → Holds n w (pop w r) k
  unfolding pop
  pop-holds r k o = record {
    size = o.size;
    low = mod-lt (r.head + 1) (omega arith);
    ends = let e : r.head + suc k ≡ r.head + 1 + k = omega arith in rw (mod-add-mod, ← e) o.ends;
    room = omega arith;
  }

  -- a count may wrap before it is read from
  reads-wrap : (p : List ℕ) (h k : ℕ) → reads n p (h % w) k ≡ reads n p h k
  reads-wrap p h k =
      reads_same n p p (h % w) h k (λ i l. rw (← mod-add-mod (h % w) n i, mod-mod_of_dvd n h f.whole, mod-add-mod))

  -- a pop takes the head, and the rest stays
  pub pop-queue : (r : Ring) (k : ℕ) → Holds n w r (suc k) → queue_of n w r ≡ head_of n r ∷ queue_of n w (pop w r)
  unfolding queue_of head_of reads
  pop-queue r k o =
      rw (holds-length r (suc k) o, holds-length (pop w r) k (pop-holds r k o))
      (unfold pop in rw (reads-wrap r.places (r.head + 1) k))

-- the port's ring
pub port-rounds : Rounds slot_count (2 ^ 32)
unfolding slot_count
port-rounds = record { whole = dvd_of_mod-eq-zero slot_count refl; some = omega arith; more = omega arith }
