use Rattle.std.proofs.Common.{◌≡◌, ◌∙◌, ◌≢◌, ◌<◌, ℕ, List, [], ◌∷◌, length, get_or, set, ap, sym, refl, arith, Some, None, IfSome, unwrap_or, Vec, String, get_or-set_other}
use Rattle.std.specs.declared.option.Option.{Option}
use Rattle.std.specs.declared.alloc.Global.{Global}
use Rattle.std.specs.Option.{option_map}
use Rattle.std.proofs.lemmas.Slice.Eq.{bytes_eq-Decides}
use Rattle.std.proofs.lemmas.List.Quantifiers.{position-Some}
use Rattle.fr_io.specs.NamedFiles.{is_named, place, bytes_at, file_of, number_of}

-- two names whose first file is the same are one
pub one_name : (files : List (String Global × Vec ℕ Global)) (a b : List ℕ) (i : ℕ) → place files a ≡ Some i → place files b ≡ Some i → a ≡ b
one_name [] a b i at_a at_b = absurd (cc)
one_name (f ∷ fs) a b i at_a at_b =
    let named_a = (position-Some (is_named a) (f ∷ fs) i f at_a).1 in
    let named_b = (position-Some (is_named b) (f ∷ fs) i f at_b).1 in
    sym ((bytes_eq-Decides _ a).0 named_a) ∙ (bytes_eq-Decides _ b).0 named_b

elsewhere : (at : Option ℕ) (numbers : List ℕ) (i v : ℕ) → ((j : ℕ) → at ≡ Some j → j ≢ i)
    → option_map (λ k. get_or (set numbers i v) k 0) at ≡ option_map (λ k. get_or numbers k 0) at
elsewhere None numbers i v h = refl
elsewhere (Some j) numbers i v h = let ne : j ≢ i = h j refl in ap Some (get_or-set_other numbers i j v 0 ne)

-- a number that is set beside the file of one name leaves that of each other name
pub number_of-other : (files new_files : List (String Global × Vec ℕ Global)) (numbers new_numbers : List ℕ) (name other : List ℕ) (i v : ℕ)
    → new_files ≡ files → new_numbers ≡ set numbers i v → place files name ≡ Some i → other ≢ name
    → number_of new_files new_numbers other ≡ number_of files numbers other
number_of-other files new_files numbers new_numbers name other i v same_files is_set found differs =
    ap (λ (fs : List (String Global × Vec ℕ Global)). number_of fs new_numbers other) same_files
    ∙ ap (λ (ns : List ℕ). number_of files ns other) is_set
    ∙ elsewhere (place files other) numbers i v (λ j at_other same. differs (one_name files other name i (at_other ∙ ap Some same) found))

-- the file of another name stands elsewhere than the count of a name, which may have no file
apart : (files : List (String Global × Vec ℕ Global)) (name other : List ℕ) (j : ℕ) (o : Option ℕ) → place files name ≡ o → place files other ≡ Some j → other ≢ name
    → j ≢ unwrap_or o (length files)
apart files name other j (Some i) at_name at_other differs same = differs (one_name files other name i (at_other ∙ ap Some same) at_name)
apart [] name other j None at_name at_other differs same = absurd (cc)
apart (f ∷ fs) name other j None at_name at_other differs same =
    let within : j < length (f ∷ fs) = (position-Some (is_named other) (f ∷ fs) j f at_other).0 in omega arith

count_at : (files : List (String Global × Vec ℕ Global)) (counts : List ℕ) (name other : List ℕ) (v : ℕ) (o : Option ℕ) → place files other ≡ o → other ≢ name
    → let at = unwrap_or (place files name) (length files) in
    IfSome (option_map (bytes_at files) o) (λ _. get_or (set counts at v) (unwrap_or o (length files)) 0 ≡ get_or counts (unwrap_or o (length files)) 0)
count_at files counts name other v None at_other differs = tt
count_at files counts name other v (Some j) at_other differs =
    let ne : j ≢ unwrap_or (place files name) (length files) = apart files name other j (place files name) refl at_other differs in
    get_or-set_other counts (unwrap_or (place files name) (length files)) j v 0 ne

-- a count that is set for one name leaves that of each other name that has a file
pub count_of-other : (files new_files : List (String Global × Vec ℕ Global)) (counts new_counts : List ℕ) (name other : List ℕ) (v : ℕ)
    → new_files ≡ files → new_counts ≡ set counts (unwrap_or (place files name) (length files)) v → other ≢ name
    → IfSome (file_of files other) (λ _. get_or new_counts (unwrap_or (place new_files other) (length new_files)) 0 ≡ get_or counts (unwrap_or (place files other) (length files)) 0)
count_of-other files new_files counts new_counts name other v same is_set differs =
    rw (same, is_set) (count_at files counts name other v (place files other) refl differs)
