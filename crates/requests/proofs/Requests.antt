-- The parts of a request at a place, by the test that the code makes; where a request ends, and that what follows it does not matter.
use mathlib.Core.Path.{◌≡◌, refl, sym, ap, ◌∙◌}
use mathlib.Core.Bool.{Bool, true, false, cond}
use mathlib.Core.List.{List, ◌++◌}
use Prim.Native.Nat.{ℕ, zero, suc, ◌+◌, ◌-◌, ◌≤◌, ◌<◌}
use native.Mathlib.Omega.{arith}
use borrow.Author.Tests.{le-leb, leb-true}
use lib.Dec.{leb, ltb, eqb}
use lib.ListN.{length, take, drop, length-append}
use lib.Seq.{take-append-le, drop-append-le}
use Rattle.reading.specs.Reading.{Fault, got, fault, length_fault, Reader, yield, ◌>>=◌, byte, byte2, byte4, such, many, framed, skipped}
use Rattle.reading.specs.Places.{onward}
use Rattle.reading.proofs.Reading.{no_answer, bind_at, mapped_at, fault_at}
use Rattle.reading.proofs.Places.{bind_got, bind_fault, framed_got, framed_long, length_onward}
use Rattle.reading.proofs.Lengths.{byte_consumes, such_consumes}
use Rattle.reading.proofs.InFront.{InFront, yield_front, bind_front, such_front, byte_front, byte2_front, byte4_front, many_front}
use Rattle.request_parts.specs.Calls.{Call, stepped, waited, body, call, calls}
use Rattle.requests.specs.Requests.{Operation, Request, asked, run_both, longest, size, lent, block, called, run, longest_from, windowed, operations, operation, request, calls_of}
use Rattle.requests.specs.Requests as requests
use Rattle.requests.specs.declared.request.Machine.{Machine}
use Rattle.requests.specs.declared.request.Machine.TheVariants as Mc

-- so many bytes at a place that has them, and at one that has not
module _ (s : List ℕ) (at n : ℕ) where
  pub block_some : n ≤ length s - at → block n (onward s at) ≡ got (take n (onward s at)) (onward s (at + n))
  unfolding block yield onward
  block_some h = framed_got (yield n) (onward s at) s n at refl refl h ∙ ap (λ (m : ℕ). got (take m (onward s at)) (onward s (at + n))) (let z : at + n - at ≡ n = omega arith in z)

  pub block_none : length s - at < n → block n (onward s at) ≡ fault length_fault
  unfolding block yield
  block_none h = framed_long (yield n) (onward s at) s n at refl refl h

-- a configuration and a call
module _ (s : List ℕ) (at : ℕ) (m : Machine) (k : ℕ) {n : ℕ} (e : n ≡ size m) where
  pub called_none : {l : ℕ} → l ≡ length s - at → l < n → called m k (onward s at) ≡ fault length_fault
  unfolding called
  called_none q h = bind_fault _ _ _ (block_none s at (size m) (omega (arith, e, q)))

  module _ {l : ℕ} (q : l ≡ length s - at) (h : n ≤ l) where
    given : block (size m) (onward s at) ≡ got (take (size m) (onward s at)) (onward s (at + n))
    given = rw e (block_some s at (size m) (omega (arith, e, q)))

    pub called_got : {c : Call} {t : List ℕ} → body k (onward s (at + n)) ≡ got c t → called m k (onward s at) ≡ got (requests.call m (take (size m) (onward s at)) c) t
    unfolding called yield
    called_got b = bind_got _ _ _ given ∙ bind_got _ _ _ b

    pub called_fault : {f : Fault} → body k (onward s (at + n)) ≡ fault f → called m k (onward s at) ≡ fault f
    unfolding called
    called_fault b = bind_got _ _ _ given ∙ bind_fault _ _ _ b

size_some : (m : Machine) → 1 ≤ size m
size_some Mc.Chart = omega arith
size_some Mc.Network = omega arith

-- a configuration alone
module _ (s : List ℕ) (at : ℕ) (m : Machine) {n l : ℕ} (e : n ≡ size m) (q : l ≡ length s - at) where
  pub longest_none : l < n → longest_from m (onward s at) ≡ fault length_fault
  unfolding longest_from
  longest_none h = bind_fault _ _ _ (block_none s at (size m) (omega (arith, e, q)))

  pub longest_got : n ≤ l
      → (got (longest m (take (size m) (onward s at))) (onward s (at + n)) ≡ longest_from m (onward s at)) × (at + n ≤ length s)
  unfolding longest_from yield
  longest_got h = (sym (bind_got _ _ _ (rw e (block_some s at (size m) (omega (arith, e, q))))), omega (arith, e, q, size_some m))

-- calls of which only the end was looked at
module _ (b : List ℕ) where
  pub run_got : {t : List ℕ} → skipped (calls b) ≡ got tt t → run b ≡ got (run_both (calls_of (calls b))) t
  unfolding run skipped yield
  run_got {t} q = let w = mapped_at _ (calls b) q in
      bind_got _ _ _ w.1 ∙ ap (λ r. got (run_both (calls_of r)) t) (sym w.1)

  pub run_fault : {f : Fault} → skipped (calls b) ≡ fault f → run b ≡ fault f
  unfolding run skipped
  run_fault q = bind_fault _ _ _ (fault_at _ (calls b) q)

-- a request whose number was read
module _ (b : List ℕ) {k : ℕ} {t : List ℕ} (h : such byte (λ k. ltb k 12) b ≡ got k t) where
  pub file_fault : {f : Fault} → framed byte4 t ≡ fault f → request b ≡ fault f
  unfolding request
  file_fault e = bind_got _ _ _ h ∙ bind_fault _ _ _ e

  -- .. and its file
  module _ {file u : List ℕ} (e : framed byte4 t ≡ got file u) where
    pub request_got : {o : Operation} {v : List ℕ} → operation k u ≡ got o v → request b ≡ got (asked file o) v
    unfolding request yield
    request_got q = bind_got _ _ _ h ∙ bind_got _ _ _ e ∙ bind_got _ _ _ q

    pub request_fault : {f : Fault} → operation k u ≡ fault f → request b ≡ fault f
    unfolding request
    request_fault q = bind_got _ _ _ h ∙ bind_got _ _ _ e ∙ bind_fault _ _ _ q

-- a request takes bytes in front, and does not depend on what follows them: what is read of a window is read of the input
part_at : (n : ℕ) (s : List ℕ) {a t : List ℕ} → cond (leb n (length s)) (got (take n s) (drop n s)) (fault length_fault) ≡ got a t → (n ≤ length s) × (a ≡ take n s) × (t ≡ drop n s)
part_at n s {a} {t} e = go (leb n (length s)) refl e
  where
    go : (b : Bool) → leb n (length s) ≡ b → cond b (got (take n s) (drop n s)) (fault length_fault) ≡ got a t → (n ≤ length s) × (a ≡ take n s) × (t ≡ drop n s)
    go true h k = (leb-true n (length s) h, cc, cc)
    go false h k = no_answer k

framed_front : (r : Reader ℕ) → InFront r → InFront (framed r)
unfolding framed onward
framed_front r p =
    bind_front r _ p
    (λ n. record {
      leaves = λ s e. let w = part_at n s e in (n, w.0, w.2);
      alike = λ s u e.
          let w = part_at n s e in
          let l : n ≤ length (s ++ u) = omega (arith, length-append s u, w.0) in
          rw (le-leb n (length (s ++ u)) l, take-append-le n s u w.0, drop-append-le n s u w.0, w.1, w.2);
    })

body_front : (k : ℕ) → InFront (body k)
unfolding body stepped waited
body_front k = go (eqb k 0)
  where
    go : (b : Bool) → InFront (cond b stepped waited)
    go true = bind_front byte2 _ byte2_front (λ n. bind_front (many n byte2) _ (many_front n byte2 byte2_front) (λ ms. yield_front _))
    go false = bind_front byte4 _ byte4_front (λ d. yield_front _)

run_front : InFront run
unfolding run calls call
run_front = bind_front calls _ (bind_front byte2 _ byte2_front (λ n. many_front n call (bind_front (such byte _) _ (such_front byte _ byte_front) body_front))) (λ cs. yield_front _)

called_front : (m : Machine) (k : ℕ) → InFront (called m k)
unfolding called block
called_front m k = bind_front (block (size m)) _ (framed_front _ (yield_front _)) (λ given. bind_front (body k) _ (body_front k) (λ c. yield_front _))

longest_front : (m : Machine) → InFront (longest_from m)
unfolding longest_from block
longest_front m = bind_front (block (size m)) _ (framed_front _ (yield_front _)) (λ given. yield_front _)

operation_front : (k : ℕ) → InFront (operation k)
unfolding operation operations lent windowed
operation_front zero = yield_front _
operation_front (suc zero) = bind_front (such byte4 _) _ (such_front byte4 _ byte4_front) (λ n. yield_front _)
operation_front (suc (suc zero)) = yield_front _
operation_front (suc (suc (suc zero))) = called_front _ _
operation_front (suc (suc (suc (suc zero)))) = called_front _ _
operation_front (suc (suc (suc (suc (suc zero))))) = yield_front _
operation_front (suc (suc (suc (suc (suc (suc zero)))))) = called_front _ _
operation_front (suc (suc (suc (suc (suc (suc (suc zero))))))) = called_front _ _
operation_front (suc (suc (suc (suc (suc (suc (suc (suc zero)))))))) = run_front
operation_front (suc (suc (suc (suc (suc (suc (suc (suc (suc zero))))))))) = longest_front _
operation_front (suc (suc (suc (suc (suc (suc (suc (suc (suc (suc zero)))))))))) = longest_front _
operation_front (suc (suc (suc (suc (suc (suc (suc (suc (suc (suc (suc zero))))))))))) = bind_front byte4 _ byte4_front (λ w. yield_front _)
operation_front (suc (suc (suc (suc (suc (suc (suc (suc (suc (suc (suc (suc k)))))))))))) = run_front

asked_front : (k : ℕ) → InFront (framed byte4 >>= λ file. operation k >>= λ o. yield (asked file o))
asked_front k = bind_front (framed byte4) _ (framed_front byte4 byte4_front) (λ file. bind_front (operation k) _ (operation_front k) (λ o. yield_front _))

pub request_front : InFront request
unfolding request
request_front = bind_front (such byte _) _ (such_front byte _ byte_front) asked_front

-- .. and takes one at least
pub request_past : (s : List ℕ) (at n : ℕ) {q : Request} → request (onward s at) ≡ got q (onward s n) → n ≤ length s → at < n
unfolding request
request_past s at n h l =
    let w = bind_at (such byte _) _ (onward s at) h in
    let v = (asked_front w.0).leaves w.1 w.3 in
    omega (arith, such_consumes 1 byte _ byte_consumes (onward s at) w.0 w.1 w.2, ap length v.2, length_onward s at, length_onward s n, length_onward w.1 v.0)
