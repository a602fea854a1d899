-- What a record that was looked at is parsed as, by the tests on its fields. Assumes nothing.
use mathlib.Core.Path.{◌≡◌, refl, sym, ap, ◌∙◌}
use mathlib.Core.Bool.{Bool, true, false}
use mathlib.Core.List.{List, [], ◌∷◌, map}
use Prim.Native.Nat.{ℕ}
use native.Mathlib.Omega.{arith}
use Rattle.std.specs.Prelude.{Option, Some, None, Result, Ok, Err, option_map}
use lib.ListN.{length, get_or, drop, length-map}
use lib.Seq.{get_or-drop}
use borrow.Author.Tests.{eq-eqb, ne_eqb}
use Rattle.lists.proofs.Tests.{same_or_not}
use Rattle.rfc4180.specs.Reading.{part, record_at, field_count, Scans, texts_in, HandsBack}
use Rattle.rfc4180.specs.declared.Span.{Span}
use Rattle.rfc4180.specs.declared.Scanned.{Scanned}
use Rattle.rfc4180.proofs.Places.{scanned_fields, scanned_malformed, counted-texts}
use Rattle.codes.specs.Codes.{place_of}
use Rattle.refusals.specs.Refusals.{number_of}
use Rattle.refusals.specs.declared.Refusal.{Refusal, TheVariants.Grammar, TheVariants.Field, TheVariants.Rating}
use Rattle.layout.specs.Layout.{letters, place_by, sorts_by, Values, values, wrong, values_of, refused, misrated, all_values, meaning_of, meant, after_letter, parsed_of, parse}
use Rattle.layout.specs.Layout.{Found, Parses, EntryAt}
use Rattle.lei.specs.Lei.{lei_of}
use Rattle.lei.specs.declared.Lei.{Lei}
use Rattle.layout.specs.declared.Letter.{Letter}
use Rattle.refusals.proofs.Refusals.{number-from_1}
use Rattle.layout.proofs.Letters.{Sized, values-sized}
use Rattle.layout.proofs.Found.{length-texts}

-- of as many fields as a record has, the first is the letter
first : (ts : List (List ℕ)) → length ts ≡ field_count → parsed_of ts ≡ after_letter (place_of (get_or ts 0 []) letters) (drop 1 ts)
unfolding parsed_of
first [] h = absurd (omega arith)
first (letter ∷ ts) h = refl

-- a record that was looked at
module _ (text : List ℕ) (at : ℕ) (old spans : List Span) {r : Option Scanned} (s : Scans (record_at text at) old spans r) where
  pub entry-malformed : r ≡ None → (vs : List ℕ) → EntryAt text at vs (record { parsed = Err Grammar; next = 0 })
  unfolding parse
  entry-malformed q vs =
      let is = scanned_malformed (record_at text at) old spans s q in
      record { means = rw is; next = rw is }

  pub entry_parsed : {t : Scanned} {vs : List ℕ} {parsed : Result Letter Refusal} → r ≡ Some t → Parses text t.count spans vs parsed
      → EntryAt text at vs (record { parsed = parsed; next = t.next })
  unfolding parse
  entry_parsed {t} {vs} {parsed} q means =
      let (ss, is, counted) = scanned_fields (record_at text at) old spans s q in
      let long : length (map (part text) ss) ≡ t.count = length-map ss (part text) ∙ counted in
      record {
        means =
            same_or_not t.count field_count
            (λ h.
            let texts = counted-texts text (record_at text at) old spans r s is counted h in
            rw (eq-eqb t.count field_count h) at means ∙ rw (is, eq-eqb _ field_count (long ∙ h)) (ap parsed_of texts))
            (λ n. rw (ne_eqb t.count field_count n) at means ∙ rw (is, ne_eqb _ field_count (λ e. n (sym long ∙ e))));
        next = rw is;
      }

-- so many fields, at places
module _ (text : List ℕ) (count : ℕ) (spans : List Span) where
  module _ (whole : count ≡ field_count) {letter : List ℕ} (h : HandsBack text count spans 0 letter) where
    abbrev texts : List (List ℕ)
    texts = drop 1 (texts_in text field_count spans)

    by_letter : (vs : List ℕ) (r : Result Letter Refusal) (o : Option ℕ) → o ≡ place_of letter letters → meaning_of r vs ≡ after_letter o texts → Parses text count spans vs r
    by_letter vs r o e m =
        let here : letter ≡ get_or (texts_in text field_count spans) 0 [] = rw whole at h.by_places in
        rw (eq-eqb count field_count whole, whole)
        (m ∙ ap (λ p. after_letter p texts) (e ∙ ap (λ l. place_of l letters) here) ∙ sym (first (texts_in text field_count spans) (length-texts text spans)))

    pub parsed_unknown : (o : Option Letter) → option_map place_by o ≡ place_of letter letters → o ≡ None → (vs : List ℕ) → Parses text count spans vs (Err Field)
    parsed_unknown o e n vs = by_letter vs (Err Field) None (rw n at e) refl

    -- after a letter
    module _ (o : Option Letter) (e : option_map place_by o ≡ place_of letter letters) {l : Letter} (is : o ≡ Some l) where
      abbrev k : ℕ
      k = place_by l

      meaning : (vs : List ℕ) (r : Result Letter Refusal) → meaning_of r vs ≡ meant k texts (values_of (sorts_by k) texts) → Parses text count spans vs r
      meaning vs r m = by_letter vs r (Some k) (rw is at e) m

      module _ (found : List ℕ) (number : ℕ) (f : Found (values_of (sorts_by k) texts) found number) where
        pub parsed-wrong : (refusal : Refusal) → number ≡ number_of refusal → (vs : List ℕ) → Parses text count spans vs (Err refusal)
        parsed-wrong refusal n vs = meaning vs (Err refusal) (by (values_of (sorts_by k) texts) refl f)
          where
            by : (us : Values) → values_of (sorts_by k) texts ≡ us → Found us found number → refused (number_of refusal) ≡ meant k texts (values_of (sorts_by k) texts)
            by (values us) q g = absurd (omega (arith, g.0, number-from_1 refusal))
            by (wrong m) q g = rw q (ap refused (sym n ∙ g))

        -- no refusal was found
        module _ (z : number ≡ 0) where
          all-good : values_of (sorts_by k) texts ≡ values found
          all-good = by (values_of (sorts_by k) texts) refl f (values-sized (sorts_by k) texts)
            where
              by : (vs : Values) → values_of (sorts_by k) texts ≡ vs → Found vs found number → Sized (length (sorts_by k)) vs → values_of (sorts_by k) texts ≡ values found
              by (values us) q g h = rw g.1 q
              by (wrong m) q g h = absurd (omega (arith, g, h))

          module _ (bad : Bool) (b : bad ≡ misrated k (get_or found 2 0) (get_or found 7 0)) where
            pub parsed-misrated : bad ≡ true → (vs : List ℕ) → Parses text count spans vs (Err Rating)
            parsed-misrated g vs = meaning vs (Err Rating) (rw (all-good, sym b ∙ g))

            pub parsed-good : bad ≡ false → {issuer : List ℕ} → HandsBack text count spans 3 issuer → {lei : Lei} → lei ≡ lei_of issuer
                → Parses text count spans (all_values (record { fields = found; lei = lei })) (Ok l)
            parsed-good g q v =
                let fourth = rw whole at q.by_places in
                let third : get_or texts 2 [] ≡ _ = get_or-drop 1 (texts_in text field_count spans) 2 [] ∙ sym fourth in
                meaning _ (Ok l) (rw (all-good, sym b ∙ g, third, v))
