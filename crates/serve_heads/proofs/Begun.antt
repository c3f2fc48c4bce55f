-- Files whose heads are read, one by one.
use Rattle.std.proofs.Common.{◌≡◌, ℕ, suc, ◌+◌, ◌<◌, ◌≤◌, List, [], ◌∷◌, ◌++◌, map, flat_map, fold, length, get_or, set, take, drop, take_all, drop-drop, get_or-drop, length-set, append-nil, add-zero, refl, sym, ap, ap₂, subst, ◌∙◌, arith}
use Rattle.std.specs.declared.option.Option.{Option as Known}
use Rattle.std.proofs.lemmas.List.{take_more, take_more_set, drop-set-lt, map-append}
use Rattle.std.proofs.lemmas.List.Concat.{flat_map-append}
use Rattle.std.proofs.lemmas.Slice.Zip.{all_zipped_more}
use Rattle.session_core.specs.declared.bot.Bot.{Bot as ABot}
use Rattle.file_script.specs.declared.script.FileScript.{FileScript}
use Rattle.serve_heads.specs.declared.script_file.ScriptFile.{ScriptFile}
use Rattle.serve_heads.specs.Guilds.{with_guild, each_once}
use Rattle.serve_heads.specs.Heads.{Head, IsBegun, HeadsAreRead}
use Rattle.serve_heads.specs.Gathered.{source_of, script_of, AreGathered}
use Rattle.serve_heads.proofs.Once.{once_more}

-- a flat map of one item more
flat_more : {X Y : Type 0} (f : X → List Y) (xs : List X) (x : X) → flat_map f xs ++ f x ≡ flat_map f (xs ++ x ∷ [])
flat_more f xs x = ap (λ l. flat_map f xs ++ l) (sym (append-nil (f x))) ∙ sym (flat_map-append f xs (x ∷ []))

module _ {S : Type 0} (left : S → Known (List ℕ)) (faults : S → ℕ) where
  abbrev Begins : S → ScriptFile S × Head → Type 0
  Begins source b = IsBegun left faults source b.0 b.1

  no_heads : HeadsAreRead left faults [] [] [] []
  no_heads = record { begun = []; each = tt; files_are = refl; bots_are = refl; guilds_are = refl }

  one_head : (sources : List S) (files : List (ScriptFile S)) (bots : List ABot) (guilds : List ℕ) (source : S) (file : ScriptFile S) (head : Head)
      → HeadsAreRead left faults sources files bots guilds → IsBegun left faults source file head
      → HeadsAreRead left faults (sources ++ source ∷ []) (files ++ file ∷ []) (bots ++ head.bots) (fold with_guild guilds head.guilds)
  one_head sources files bots guilds source file head read is =
      let guilds_in : ScriptFile S × Head → List ℕ = λ b. b.1.guilds in
      record {
        begun = read.begun ++ (file, head) ∷ [];
        each = all_zipped_more Begins sources read.begun source (file, head) read.each is;
        files_are = ap (λ l. l ++ file ∷ []) read.files_are ∙ sym (map-append (λ b. b.0) read.begun ((file, head) ∷ []));
        bots_are = ap (λ l. l ++ head.bots) read.bots_are ∙ flat_more (λ b. b.1.bots) read.begun (file, head);
        guilds_are = ap (λ l. fold with_guild l head.guilds) read.guilds_are ∙ sym (once_more (flat_map guilds_in read.begun) head.guilds)
            ∙ ap each_once (flat_more guilds_in read.begun (file, head));
      }

  -- so many of the sources were read, and those behind them are as they were
  pub record AreSoFar (n : ℕ) (old now : List S) (scripts : List FileScript) (bots : List ABot) (guilds : List ℕ) : Type 0 where
    pub front : AreGathered left faults (take n old) (take n now) scripts bots guilds
    pub behind : drop n now ≡ drop n old
    pub long : length now ≡ length old

  pub none_read : (sources : List S) (scripts : List FileScript) (bots : List ABot) (guilds : List ℕ) → scripts ≡ [] → bots ≡ [] → guilds ≡ []
      → AreSoFar 0 sources sources scripts bots guilds
  none_read sources scripts bots guilds no_scripts no_bots no_guilds = record {
    front = record {
      files = [];
      sources_are = refl;
      scripts_are = no_scripts;
      read = rw (no_bots, no_guilds) no_heads;
    };
    behind = refl;
    long = refl;
  }

  -- the source whose turn it is, is as it was
  pub turn_of : (n : ℕ) (old now : List S) (d : S) → drop n now ≡ drop n old → get_or now n d ≡ get_or old n d
  turn_of n old now d behind = subst (λ k. get_or now k d ≡ get_or old k d) (add-zero n) (sym (get_or-drop n now 0 d) ∙ ap (λ l. get_or l 0 d) behind ∙ get_or-drop n old 0 d)

  pub one_read : (n : ℕ) (old now : List S) (scripts : List FileScript) (bots : List ABot) (guilds : List ℕ) (d : S) (file : ScriptFile S) (head : Head)
      → n < length old → AreSoFar n old now scripts bots guilds → IsBegun left faults (get_or old n d) file head
      → AreSoFar (n + 1) old (set now n file.source) (scripts ++ file.script ∷ []) (bots ++ head.bots) (fold with_guild guilds head.guilds)
  one_read n old now scripts bots guilds d file head lt far is =
      let front = far.front in
      record {
        front = record {
          files = front.files ++ file ∷ [];
          sources_are = take_more_set now n file.source (omega (arith, lt, far.long)) ∙ ap (λ l. l ++ file.source ∷ []) front.sources_are ∙ sym (map-append source_of front.files (file ∷ []));
          scripts_are = ap (λ l. l ++ file.script ∷ []) front.scripts_are ∙ sym (map-append script_of front.files (file ∷ []));
          read =
              let read = one_head (take n old) front.files bots guilds (get_or old n d) file head front.read is in
              subst (λ l. HeadsAreRead left faults l (front.files ++ file ∷ []) (bots ++ head.bots) (fold with_guild guilds head.guilds)) (sym (take_more old n d lt)) read;
        };
        behind = drop-set-lt (n + 1) now n file.source (omega arith) ∙ sym (drop-drop 1 n now) ∙ ap (drop 1) far.behind ∙ drop-drop 1 n old;
        long = length-set now n file.source ∙ far.long;
      }

  pub all_read : (n : ℕ) (old now : List S) (scripts : List FileScript) (bots : List ABot) (guilds : List ℕ) → length old ≤ n
      → AreSoFar n old now scripts bots guilds → AreGathered left faults old now scripts bots guilds
  all_read n old now scripts bots guilds le far =
      let front : AreGathered left faults old (take n now) scripts bots guilds =
      subst (λ l. AreGathered left faults l (take n now) scripts bots guilds) (take_all n old le) far.front in
      subst (λ l. AreGathered left faults old l scripts bots guilds) (take_all n now (omega (arith, le, far.long))) front

  -- files with the same parts are the same
  same_files : (fs gs : List (ScriptFile S)) → map source_of fs ≡ map source_of gs → map script_of fs ≡ map script_of gs → fs ≡ gs
  same_files [] [] sources scripts = refl
  same_files [] (g ∷ gs) sources scripts = let none : 0 ≡ suc (length (map source_of gs)) = ap length sources in absurd (omega (arith, none))
  same_files (f ∷ fs) [] sources scripts = let none : suc (length (map source_of fs)) ≡ 0 = ap length sources in absurd (omega (arith, none))
  same_files (f ∷ fs) (g ∷ gs) sources scripts =
      let source : f.source ≡ g.source = ap (λ (l : List S). get_or l 0 f.source) sources in
      let script : f.script ≡ g.script = ap (λ (l : List FileScript). get_or l 0 f.script) scripts in
      let same : f ≡ g = ap₂ (λ (s : S) (t : FileScript). record { source = s; script = t }) source script in
      ap₂ (λ h hs. h ∷ hs) same (same_files fs gs (ap (drop 1) sources) (ap (drop 1) scripts))

  -- the files that are put together
  pub joined : (old now : List S) (files : List (ScriptFile S)) (scripts : List FileScript) (bots : List ABot) (guilds : List ℕ)
      → AreGathered left faults old now scripts bots guilds → map source_of files ≡ now → map script_of files ≡ scripts
      → HeadsAreRead left faults old files bots guilds
  joined old now files scripts bots guilds gathered sources_are scripts_are =
      let same = same_files gathered.files files (sym (sources_are ∙ gathered.sources_are)) (sym (scripts_are ∙ gathered.scripts_are)) in
      subst (λ l. HeadsAreRead left faults old l bots guilds) same gathered.read
