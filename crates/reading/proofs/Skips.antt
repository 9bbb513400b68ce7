-- Readers of which only the end is looked at, or the fault.
use mathlib.Core.Path.{◌≡◌, refl, ◌∙◌}
use mathlib.Core.List.{List, [], ◌∷◌, ◌++◌}
use Prim.Native.Nat.{ℕ, ◌+◌, ◌≤◌, ◌<◌}
use Rattle.reading.specs.Reading.{Fault, Read, got, fault, Reader, next, ◌>>=◌, many, end, framed, whole, recorded, mapped, skipped}
use Rattle.reading.proofs.Reading.{mapped_got, mapped_fault, mapped_at, fault_at, mapped_bind}
use Rattle.reading.proofs.Many.{Going, going_none, going_more, going_stop, going_all}

-- a record whose content is looked at as f has it
pub mapped_recorded : {A B : Type 0} (f : A → B) (size : Reader ℕ) (r : Reader A) (s : List ℕ) → mapped f (recorded size r s) ≡ recorded size (λ p. mapped f (r p)) s
unfolding recorded mapped next whole ◌>>=◌
mapped_recorded {A} {B} f size r s = mapped_bind f (framed size) (whole r) s ∙ go (framed size s)
  where
    closed : (t : List ℕ) (a : A) (e : Read (Unit {0})) → mapped f (next e (λ x y. got a t)) ≡ next e (λ x y. got (f a) t)
    closed t a (got x y) = refl
    closed t a (fault g) = refl

    used : (t : List ℕ) (q : Read A) → mapped f (next q (λ a u. next (end u) (λ x y. got a t))) ≡ next (mapped f q) (λ b u. next (end u) (λ x y. got b t))
    used t (got a u) = closed t a (end u)
    used t (fault g) = refl

    go : (q : Read (List ℕ)) → next q (λ p t. mapped f (whole r p t)) ≡ next q (whole (λ p. mapped f (r p)))
    go (got p t) = used t (r p)
    go (fault g) = refl

-- a record of which only the end is looked at
pub skipped_recorded : {A : Type 0} (size : Reader ℕ) (r : Reader A) (s : List ℕ) → skipped (recorded size r s) ≡ recorded size (λ p. skipped (r p)) s
unfolding skipped
skipped_recorded size r s = mapped_recorded (λ a. tt) size r s

-- the loop that only goes past the elements
abbrev pub Skipping : {A : Type 0} → Reader A → ℕ → List ℕ → List ℕ → ℕ → Type 0
Skipping {A} r n b rest i = (seen : List A) × Going r n b rest i seen

module _ {A : Type 0} (r : Reader A) (n : ℕ) (b : List ℕ) where
  pub skipping_none : Skipping r n b b 0
  skipping_none = ([], going_none r n b)

  module _ {rest : List ℕ} {i : ℕ} (S : Skipping r n b rest i) where
    pub skipping_more : {t : List ℕ} → i < n → skipped (r rest) ≡ got tt t → Skipping r n b t (i + 1)
    unfolding skipped
    skipping_more h q = let w = mapped_at _ (r rest) q in (S.0 ++ (w.0 ∷ []), going_more r n b S.1 h w.1)

    pub skipping_stop : {f : Fault} → i < n → skipped (r rest) ≡ fault f → skipped (many n r b) ≡ fault f
    unfolding skipped
    skipping_stop h q = mapped_fault _ (going_stop r n b S.1 h (fault_at _ (r rest) q))

    pub skipping_all : n ≤ i → skipped (many n r b) ≡ got tt rest
    unfolding skipped
    skipping_all h = mapped_got _ (going_all r n b S.1 h).0
