mod Renditions
