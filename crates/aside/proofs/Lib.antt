mod FrontLaws
mod AsideLaws
mod ToldLaws
mod RecoveredLaws
