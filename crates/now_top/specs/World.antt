-- What a command finds and is given, and what it comes to before anything is delivered (this project's profile).
use Rattle.std.specs.Prelude.{◌≡◌, ℕ, false, ◌⊎◌, List, [], Some, None, IsTrue}
use Rattle.delivery.specs.Ending.{Ending}
use Rattle.delivery.specs.PutsAll.{OutFile}
use Rattle.prov_base.specs.Path.{is_path}
use Rattle.prov_outside.specs.Folder.{Files}
use Rattle.py_model.specs.Capture.{Capture}

-- what the folder holds as a command begins, and what the devices give a script in it
pub record World : Type 0 where
  pub files : Files
  pub capture : Capture

-- how a command ends where no device fails from then on, the text that goes to the console then, and the files that are put before that, in their order
pub record Plan : Type 0 where
  pub ending : Ending
  pub text : List ℕ
  pub files : List OutFile

-- a closing line alone
abbrev pub closing : Ending → Plan
closing ending = record { ending = ending; text = []; files = [] }

-- this text stands at FILE, which is a path
pub record StandsAt (file : List ℕ) (files : Files) (text : List ℕ) : Type 0 where
  pub path : IsTrue (is_path file)
  pub stands : files file ≡ Some text

-- FILE is no path, or nothing stands there
abbrev pub IsNowhere : List ℕ → Files → Type 0
IsNowhere file files = (is_path file ≡ false) ⊎ (files file ≡ None)

-- no device was asked, and no file was fetched for a script
pub record IsUnasked (capture : Capture) : Type 0 where
  pub answers : capture.answers ≡ []
  pub files : capture.files ≡ []
