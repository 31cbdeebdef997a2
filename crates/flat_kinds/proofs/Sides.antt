-- Signed numbers that the code passes on: by their bits, and back.
use mathlib.Core.Path.{◌≡◌, refl, ap, ◌∙◌}
use Prim.Native.Nat.{ℕ, ◌<◌}
use native.Mathlib.Omega.{arith}
use mathlib.Core.List.{List, [], ◌∷◌}
use lib.IntN.{ℤ}
use mir.Syntax.{w16}
use mir.Val.{SFits}
use mir.Facts.{to_z-of_z}
use Rattle.window_head.proofs.Signed.{passed}
use Rattle.core_read.specs.Bytes.{bits_of}
use Rattle.core_read.proofs.TwosComplement.{signed_fits}
use Rattle.flags.specs.declared.window.WindowFlags.{WindowFlags}
use Rattle.window_read.specs.declared.WindowContent.{WindowContent}
use Rattle.window_read.specs.declared.WindowPane.{WindowPane}
use Rattle.flat.specs.Words.{Stored, half_at, byte_at}
use Rattle.flat_kinds.specs.Own.{side_at, window_flags_at, content_at, window_at}

-- a side and its word
pub record Side (z : ℤ) (n : ℕ) : Type 0 where
  pub word : n ≡ bits_of (passed z)
  pub fits : SFits w16 z

one : {z : ℤ} {n : ℕ} → Side z n → n ≡ bits_of z
one s = s.word ∙ ap bits_of (to_z-of_z s.fits)

pub sides_stored : {o o' : List ℕ} {p a b c d : ℕ} {l r t u : ℤ} → Side l a → Side r b → Side t c → Side u d
    → Stored o p (a ∷ b ∷ c ∷ d ∷ []) o' → Stored o p (bits_of l ∷ bits_of r ∷ bits_of t ∷ bits_of u ∷ []) o'
sides_stored sa sb sc sd h = rw (one sa, one sb, one sc, one sd) at h

-- four sides handed to a call
pub sides_passed : {o o' : List ℕ} {p : ℕ} {l r t u : ℤ} → SFits w16 l → SFits w16 r → SFits w16 t → SFits w16 u
    → Stored o p (bits_of (passed l) ∷ bits_of (passed r) ∷ bits_of (passed t) ∷ bits_of (passed u) ∷ []) o' → Stored o p (bits_of l ∷ bits_of r ∷ bits_of t ∷ bits_of u ∷ []) o'
sides_passed fl fr ft fu = sides_stored (record { word = refl; fits = fl }) (record { word = refl; fits = fr }) (record { word = refl; fits = ft }) (record { word = refl; fits = fu })

back : (w : List ℕ) (i : ℕ) (z : ℤ) → z ≡ side_at w i → passed z ≡ side_at w i
back w i z e =
    let h : half_at w i < 65536 = omega arith in
    ap passed e ∙ to_z-of_z (signed_fits (half_at w i) h)

pub window_read : (w : List ℕ) (a b c d e f g h : ℤ) (k : WindowFlags) (x : WindowContent)
    → a ≡ side_at w 62 → b ≡ side_at w 63 → c ≡ side_at w 64 → d ≡ side_at w 65
    → e ≡ side_at w 66 → f ≡ side_at w 67 → g ≡ side_at w 68 → h ≡ side_at w 69 → k ≡ window_flags_at w → x ≡ content_at w
    → ◌≡◌ {A = WindowPane} (record {
      inflation_left = passed a;
      inflation_right = passed b;
      inflation_top = passed c;
      inflation_bottom = passed d;
      frame_size_left = passed e;
      frame_size_right = passed f;
      frame_size_top = passed g;
      frame_size_bottom = passed h;
      flag = k;
      frame_count = byte_at w 74;
      content = x;
    }) (window_at w)
unfolding window_at
window_read w a b c d e f g h k x ea eb ec ed ee ef eg eh ek ex =
    rw (back w 62 a ea, back w 63 b eb, back w 64 c ec, back w 65 d ed, back w 66 e ee, back w 67 f ef, back w 68 g eg, back w 69 h eh, ek, ex)
