-- A session in lent buffers, step by step.
use Rattle.std.proofs.Common.{◌≡◌, ℕ, ◌+◌, ◌-◌, ◌%◌, ◌^◌, ◌<◌, ◌≤◌, Bool, true, false, cond, eqb, List, [], ◌∷◌, ◌++◌, length, get_or, take, drop, set, sym, refl, ap, ◌∙◌, add-one, arith, length-append, length-take-le, take-suc, drop-drop, take-suc-set, take_at, drop_at, le-ltb, lt-ltb, eq-eqb, ne_eqb}
use Rattle.rules.specs.Sizes.{slot_count, hart_count, name_size}
use Rattle.rules.specs.Model.{Table}
use Rattle.promises.specs.Order.Sound.{Sound}
use Rattle.words.specs.Reading.{table_of}
use Rattle.buffers.specs.Text.{put, Wrote}
use Rattle.buffers.proofs.TextLaws.{wrote-long}
use Rattle.lines.specs.declared.Why.TheVariants.{TooLong}
use Rattle.lines.specs.Meaning.{means}
use Rattle.desk.specs.Desk.{misread_text, table_after, text_for, misread_top, desk_top, Answered}
use Rattle.session.specs.declared.talk.Place.{Place}
use Rattle.session.specs.Talk.{Seat, longest_line, newline, line_means, ended, kept, lengthened, heard, hears, closed}
use Rattle.session.specs.WholeLines.{in_pieces}
use Rattle.session.specs.Places.{line_room, seat_of, Ready, Seated}

-- the front of the buffer, with the text behind it
wrote-front : {b p a : List ℕ} {k m : ℕ} → Wrote b k p a m → take m a ≡ take k b ++ p
unfolding put
wrote-front {b} {p} {k = k} u = rw (u.buffer, u.place) (take_at (take k b ++ p) (drop (k + length p) b) (k + length p)
    (length-append (take k b) p ∙ ap (λ (n : ℕ). n + length p) (length-take-le k b (omega (arith, u.fits)))))

-- and behind it as it was
wrote-rest : {b p a : List ℕ} {k m : ℕ} → Wrote b k p a m → drop m a ≡ drop m b
unfolding put
wrote-rest {b} {p} {k = k} u = rw (u.buffer, u.place) (drop_at (take k b ++ p) (drop (k + length p) b) (k + length p)
    (length-append (take k b) p ∙ ap (λ (n : ℕ). n + length p) (length-take-le k b (omega (arith, u.fits)))))

further : (x y : List ℕ) (i j : ℕ) → i ≤ j → drop i x ≡ drop i y → drop j x ≡ drop j y
further x y i j h e =
    let z : i + (j - i) ≡ j = omega arith in
    ap (λ (n : ℕ). drop n x) (sym z) ∙ sym (drop-drop (j - i) i x) ∙ ap (drop (j - i)) e ∙ drop-drop (j - i) i y ∙ ap (λ (n : ℕ). drop n y) z

heard-longer : (s : Seat) (b : ℕ) → length s.said ≤ length (heard s b).said
unfolding heard ended
heard-longer s b = go (eqb b newline)
  where
    go : (y : Bool) → length s.said ≤ length (cond y (ended s) (lengthened s b)).said
    go true = omega (arith, length-append s.said (text_for s.table ((s.number + 1) % 2 ^ 64) (line_means s.line)))
    go false = omega arith

seat-by : {a b : Table} {k l : List ℕ} {m n : ℕ} {x y : List ℕ} → a ≡ b → k ≡ l → m ≡ n → x ≡ y
    → ◌≡◌ {A = Seat} (record { table = a; line = k; number = m; said = x }) (record { table = b; line = l; number = n; said = y })
seat-by e f g h = rw (e, f, g, h)

-- ---- the line so far
module _ (line : List ℕ) (len : ℕ) (e : length line ≡ line_room) where
  module _ (full : line_room ≤ len) (within : len ≤ line_room) where
    long : longest_line < length (take len line)
    long = omega (arith, length-take-le len line (omega arith))

    pub kept-none : (b : ℕ) → take len line ≡ kept (take len line) b
    unfolding kept
    kept-none b = rw (lt-ltb longest_line (length (take len line)) long)

    pub too_long : {t : Table} {n at end : ℕ} {b d : List ℕ} → Sound t → Wrote b at (misread_text n TooLong) d end → end ≤ at + misread_top
        → Answered t n (line_means (take len line)) t b at d end
    unfolding line_means table_after text_for slot_count hart_count name_size
    too_long w v h = rw (lt-ltb longest_line (length (take len line)) long) record { table = refl; text = v; within = omega arith; sound = w }

  module _ (room : len < line_room) where
    pub short : length (take len line) ≤ longest_line
    short = omega (arith, length-take-le len line (omega arith))

    pub kept-one : (b : ℕ) → take (len + 1) (set line len b) ≡ kept (take len line) b
    unfolding kept
    kept-one b = rw (add-one, le-ltb longest_line (length (take len line)) short) (take-suc-set line len b (omega arith))

    pub in-full : {t u : Table} {n at end : ℕ} {b d : List ℕ} → Answered t n (means (take len line)) u b at d end → Answered t n (line_means (take len line)) u b at d end
    unfolding line_means
    in-full a = rw (le-ltb longest_line (length (take len line)) short) a

-- ---- one byte, and the end
module _ (t line out : List ℕ) (p : Place) where
  pub line-ended : {u d : List ℕ} {end : ℕ} → p.at + desk_top ≤ length out
      → Answered (table_of t) ((p.number + 1) % 2 ^ 64) (line_means (take p.len line)) (table_of u) out p.at d end
      → Seated (ended (seat_of t line out p)) out u line d (record { len = 0; number = (p.number + 1) % 2 ^ 64; at = end })
  unfolding ended
  line-ended h a = record {
    seat = seat-by a.table refl refl (wrote-front a.text);
    sound = a.sound;
    len = omega arith;
    at = omega (arith, a.within, wrote-long a.text);
    rest = wrote-rest a.text;
  }

  module _ (b : ℕ) where
    pub heard-end : b ≡ newline → {u l d : List ℕ} {q : Place} → Seated (ended (seat_of t line out p)) out u l d q → Seated (heard (seat_of t line out p) b) out u l d q
    unfolding heard
    heard-end e h = rw (eq-eqb b newline e) h

    pub heard-more : (b ≡ newline → ⊥) → {l : List ℕ} {k : ℕ} → Sound (table_of t) → p.at + desk_top ≤ length out → take k l ≡ kept (take p.len line) b → k ≤ line_room
        → Seated (heard (seat_of t line out p) b) out t l out (record { len = k; number = p.number; at = p.at })
    unfolding heard
    heard-more e w h f g = rw (ne_eqb b newline e) record { seat = seat-by refl f refl refl; sound = w; len = g; at = omega arith; rest = refl }

  pub closed-empty : p.len ≡ 0 → Sound (table_of t) → p.at + desk_top ≤ length out → Seated (closed (seat_of t line out p)) out t line out p
  unfolding closed
  closed-empty e w h = record { seat = rw (eq-eqb (length (take p.len line)) 0 (ap (λ (n : ℕ). length (take n line)) e)); sound = w; len = omega arith; at = omega arith; rest = refl }

  pub closed-line : length line ≡ line_room → p.len ≤ line_room → (p.len ≡ 0 → ⊥) → {u d : List ℕ} {q : Place} → Seated (ended (seat_of t line out p)) out u line d q → Seated (closed (seat_of t line out p)) out u line d q
  unfolding closed
  closed-line f g e h = rw (ne_eqb (length (take p.len line)) 0 (λ z. e (omega (arith, length-take-le p.len line (omega arith))))) h

-- ---- the first bytes of a piece
pub none-heard : {t line name out : List ℕ} {p : Place} (piece : List ℕ) → Ready t line name out p → Seated (hears (seat_of t line out p) (take 0 piece)) out t line out p
unfolding hears
none-heard piece r = record { seat = refl; sound = r.sound; len = r.len; at = omega (arith, r.for_answer); rest = refl }

module _ (s : Seat) (piece : List ℕ) (n : ℕ) {was t line out : List ℕ} {p : Place} (m : Seated (hears s (take n piece)) was t line out p) where
  one_more : n < length piece → heard (hears s (take n piece)) (get_or piece n 0) ≡ hears s (take (n + 1) piece)
  unfolding hears
  one_more h = rw (add-one, take-suc piece n 0 h) (sym (in_pieces s (take n piece) (get_or piece n 0 ∷ [])))

  module _ {u line' d : List ℕ} {q : Place} (v : Seated (heard (seat_of t line out p) (get_or piece n 0)) out u line' d q) where
    onward : p.at ≤ q.at
    onward =
        omega (
          arith,
          heard-longer (seat_of t line out p) (get_or piece n 0),
          ap (λ (x : Seat). length x.said) v.seat,
          length-take-le q.at d v.at,
          length-take-le p.at out m.at,
        )

    pub next : n < length piece → Seated (hears s (take (n + 1) piece)) was u line' d q
    next h = record {
      seat = v.seat ∙ ap (λ (x : Seat). heard x (get_or piece n 0)) m.seat ∙ one_more h;
      sound = v.sound;
      len = v.len;
      at = v.at;
      rest = v.rest ∙ further out was p.at q.at onward m.rest;
    }
