-- What the check of a file finds, part by part.
use mathlib.Core.Path.{◌≡◌, refl, sym, ap, ◌∙◌, subst}
use mathlib.Core.Bool.{Bool, true, false}
use mathlib.Core.List.{List}
use Prim.Native.Nat.{ℕ, ◌-◌, ◌≤◌, ◌<◌, ◌^◌}
use native.Mathlib.Omega.{arith}
use lib.ListN.{length, take, drop}
use Rattle.lists.specs.Lists.{all}
use Rattle.reading.specs.Reading.{Read, got, fault, yield, ◌>>◌, byte, byte2, many, recorded, skipped, mapped}
use Rattle.reading.specs.Places.{onward, fault_of}
use Rattle.reading.specs.Answer.{Answer, done, refused, unless, ◌>>=◌}
use Rattle.reading.specs.declared.field.Fault.{Fault}
use Rattle.reading.specs.declared.field.Fault.TheVariants as Fl
use Rattle.reading.proofs.Places.{bind_got, bind_fault, next_got, next_fault, end_none, end_some, onward_onward, length_onward, part_onward, handed_on}
use Rattle.reading.proofs.Reading.{mapped_at, fault_at, many_at}
use Rattle.network_records.specs.Network.{Location, Edge, Network, location, in_range, records, numbered, sound, counts_of, read_network, network_of}
use Rattle.network_records.specs.Edges.{edge_in, keeps_once, EdgesAt}
use Rattle.network_records.specs.Layout.{Laid}
use Rattle.network.specs.Checks.{fault_number, sound_of, CheckedAs}
use Rattle.network_records.specs.declared.header.Counts.{Counts}
use Rattle.std.specs.Prelude.{Option, Some, None, Result, Ok, Err, ok_or}
use Rattle.std.specs.Result.{MatchResult, IsErrAnd}
use Rattle.reading.specs.declared.refusal.Refusal.{Refusal}
use Rattle.reading.specs.Verdict.{number}
use Rattle.network_records.proofs.Records.{located}

-- what `map_err` says of a result: it has the value, or the error that the new one is made of
module _ {T E : Type 0} (D : Type 0) where
  pub mapped_ok : (r : Result T E) (x : T) → MatchResult r (λ y. ◌≡◌ {A = Result T D} (Ok x) (Ok y)) (λ e. ⊥) → r ≡ Ok x
  mapped_ok (Ok y) x h = cc
  mapped_ok (Err e) x h = absurd h

  pub mapped_err : (r : Result T E) (Q : E → Type 0) (d : D) → MatchResult r (λ y. ◌≡◌ {A = Result T D} (Err d) (Ok y)) Q → (e : E) × (r ≡ Err e) × Q e
  mapped_err (Ok y) Q d h = cc
  mapped_err (Err e) Q d h = (e, refl, h)

-- what `ok_or` says of an option
module _ {T E : Type 0} where
  pub some_of : (o : Option T) (e : E) (x : T) → Ok x ≡ ok_or o e → o ≡ Some x
  some_of (Some y) e x h = cc
  some_of None e x h = cc

  pub none_of : (o : Option T) (e d : E) → Err d ≡ ok_or o e → (o ≡ None) × (d ≡ e)
  none_of (Some y) e d h = cc
  none_of None e d h = (refl, cc)

-- a refusal that is handed on
pub refused_as : (rest offsets : List ℕ) {d : Answer Network} (v : Result Counts Refusal) (r : Refusal) → IsErrAnd v (λ x. x ≡ r) → d ≡ refused (number r)
    → CheckedAs rest offsets d v
refused_as rest offsets {d} v r h e = subst (CheckedAs rest offsets d) (sym (handed_on v h)) e

sound_fault : {q : Read Network} (f : Fault) → q ≡ fault (fault_of f) → sound_of q ≡ refused (fault_number f)
unfolding numbered ◌>>=◌
sound_fault Fl.Length h = rw h
sound_fault Fl.Range h = rw h

sound_got : {q : Read Network} {n : Network} {t : List ℕ} → q ≡ got n t → sound_of q ≡ unless 25 (sound n) (done n)
unfolding numbered ◌>>=◌
sound_got h = rw h

module _ (k : Counts) (rest : List ℕ) where
  abbrev pub Locations : Read (List Location)
  Locations = many k.locations (recorded byte (location k.automata k.clocks)) (onward rest 8)

  abbrev pub EdgesFrom : ℕ → Read (List Edge)
  EdgesFrom at = many k.edges (recorded byte2 (edge_in k)) (onward rest at)

  abbrev net : List Location → List Edge → Network
  net ls es = record { version = k.version; automata = k.automata; clocks = k.clocks; variables = k.variables; rendezvous = k.rendezvous; broadcasts = k.broadcasts; locations = ls; edges = es }

  pub locations_fault : (f : Fault) → skipped Locations ≡ fault (fault_of f) → sound_of (records k (onward rest 8)) ≡ refused (fault_number f)
  unfolding records skipped
  locations_fault f h = sound_fault f (bind_fault _ _ _ (fault_at _ _ h))

  module _ (at : ℕ) (g : skipped Locations ≡ got tt (onward rest at)) where
    ls : (ls : List Location) × (Locations ≡ got ls (onward rest at))
    unfolding skipped
    ls = let w = mapped_at _ _ g in (w.0, w.1)

    pub edges_fault : (f : Fault) → mapped (all keeps_once) (EdgesFrom at) ≡ fault (fault_of f) → sound_of (records k (onward rest 8)) ≡ refused (fault_number f)
    unfolding records
    edges_fault f h = sound_fault f (bind_got _ _ _ ls.1 ∙ bind_fault _ _ _ (fault_at _ _ h))

    module _ (to : ℕ) (once : Bool) (h : mapped (all keeps_once) (EdgesFrom at) ≡ got once (onward rest to)) where
      es : (es : List Edge) × (EdgesFrom at ≡ got es (onward rest to)) × (all keeps_once es ≡ once)
      es = mapped_at _ _ h

      pub rest_fault : to < length rest → sound_of (records k (onward rest 8)) ≡ refused 24
      unfolding records ◌>>◌
      rest_fault l = sound_fault Fl.Length (bind_got _ _ _ ls.1 ∙ bind_got _ _ _ es.1 ∙ next_fault _ (end_some rest to l))

      module _ (l : length rest ≤ to) (r : in_range k ≡ true) (offsets : List ℕ) (p : (es : List Edge) (t : List ℕ) → EdgesFrom at ≡ got es t → EdgesAt k rest offsets es) where
        read : records k (onward rest 8) ≡ got (net ls.0 es.0) (onward rest to)
        unfolding records ◌>>◌ yield
        read = bind_got _ _ _ ls.1 ∙ bind_got _ _ _ es.1 ∙ next_got _ (end_none rest to l)

        laid : Laid rest k offsets (net ls.0 es.0)
        laid = record {
          located = located rest k r (net ls.0 es.0) refl refl refl refl (onward rest at) ls.1;
          edges = (many_at k.edges _ (onward rest at) es.1).0;
          placed = p es.0 (onward rest to) es.1;
        }

        module _ (b : Bool) (s : (n : Network) → Laid rest k offsets n → all keeps_once n.edges ≡ once → b ≡ sound n) where
          pub rules_broken : b ≡ false → sound_of (records k (onward rest 8)) ≡ refused 25
          unfolding unless
          rules_broken e = sound_got read ∙ ap (λ (x : Bool). unless 25 x (done (net ls.0 es.0))) (sym (s _ laid es.2) ∙ e)

          pub rules_kept : b ≡ true → (n : Network) × (sound_of (records k (onward rest 8)) ≡ done n) × Laid rest k offsets n
          unfolding unless
          rules_kept e = (net ls.0 es.0, sound_got read ∙ ap (λ (x : Bool). unless 25 x (done (net ls.0 es.0))) (sym (s _ laid es.2) ∙ e), laid)

-- a whole file, by its header
module _ (file : List ℕ) where
  pub header_refused : {m : ℕ} → counts_of file ≡ refused m → network_of file ≡ refused m
  unfolding network_of read_network ◌>>=◌
  header_refused h = rw h

  pub network_sound : {k : Counts} → counts_of file ≡ done k → network_of file ≡ sound_of (records k (onward (onward file 5) 8))
  unfolding network_of read_network ◌>>=◌
  network_sound {k} h = rw (h, onward_onward file 5 8)

  -- the check of the bytes after version and length is that of the file
  pub checked_file : {k : Counts} → counts_of file ≡ done k → (offsets : List ℕ) (v : Result Counts Refusal)
      → CheckedAs (take (length file - 5) (drop 5 file)) offsets (sound_of (records k (onward (take (length file - 5) (drop 5 file)) 8))) v → CheckedAs (onward file 5) offsets (network_of file) v
  checked_file {k} e offsets v h =
      subst (λ (d : Answer Network). CheckedAs (onward file 5) offsets d v) (sym (network_sound e)) (subst (λ (p : List ℕ). CheckedAs p offsets (sound_of (records k (onward p 8))) v) (part_onward file 5) h)

  pub rest_fits : (13 ≤ length file) × (length file - 5 < 2 ^ 32) → length (take (length file - 5) (drop 5 file)) < 2 ^ 32
  rest_fits h = rw (part_onward file 5) (omega (arith, h, length_onward file 5))

  -- what the check of a file says of its network, in the bytes as a callee has them
  pub found : (offsets : List ℕ) {d : Answer Network} {k : Counts} → CheckedAs (onward file 5) offsets d (Ok k)
      → (n : Network) × (d ≡ done n) × Laid (take (length file - 5) (drop 5 file)) k offsets n
  found offsets {k = k} h = (h.0, h.1, subst (λ (p : List ℕ). Laid p k offsets h.0) (sym (part_onward file 5)) h.2)
